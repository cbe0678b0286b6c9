mod Made
mod Standing
mod Events
mod Parts
