mod Run
mod TokenTry
mod Trees
mod Spelled
mod Fronts
mod CutRun
mod Holes
mod TextCut
mod LimitWalk
mod Short
mod Worlds
mod TypedTrees
mod MethodTyped
pub mod Weighed
pub mod MadePrograms
