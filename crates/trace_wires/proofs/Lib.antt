mod Giving
mod Delivering
