mod Rows
mod Shifts
mod Writes
