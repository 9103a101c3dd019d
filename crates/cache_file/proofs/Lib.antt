mod Chunks
mod Filling
mod Looks
mod Reading
