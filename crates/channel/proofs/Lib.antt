mod Grows
mod Written
mod ReadBack
