mod DigitsInPlace
mod WordsSaid
