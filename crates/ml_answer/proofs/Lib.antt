mod Layouts
mod MapViews
mod NoFloats
mod Sizes
mod Views
