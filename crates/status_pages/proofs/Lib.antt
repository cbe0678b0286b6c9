mod Depths
mod Outcomes
