mod Words
mod Examples
