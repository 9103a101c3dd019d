mod Courses
mod Hintings
mod Outlets
mod Telling
