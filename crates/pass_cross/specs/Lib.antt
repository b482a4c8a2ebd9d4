-- What the contracts of the crossing pass cite: the edges that it joins, and how it finds them.
pub mod CrossEdges
pub mod Inner
