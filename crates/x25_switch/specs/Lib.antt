pub mod SwitchView
