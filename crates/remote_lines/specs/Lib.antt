pub mod RemoteLine
pub mod Restart
