mod Building
mod Refusing
mod SeedTexts
mod WordRows
