mod Opened
mod InFlight
mod Numbers
mod Options
