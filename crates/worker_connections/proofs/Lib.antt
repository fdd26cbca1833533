mod Kept
mod SharedPlaces
mod Sound
