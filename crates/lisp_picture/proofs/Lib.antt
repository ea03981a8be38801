mod Adding
mod Elements
mod Lines
mod NoMarkup
