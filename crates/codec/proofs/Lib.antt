mod Checked
mod CallTrips
