-- One law for each answer of a make, over plain variables; a station's make from a replica's; and the way to a make on lent parts.
pub mod MakeLaws
pub mod StationLaws
