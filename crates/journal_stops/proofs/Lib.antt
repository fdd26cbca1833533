mod Outcomes
mod Puts
