-- The specimens and the values at the limits hold.
mod Hold
mod Edges
