pub mod Steps
mod Kept
mod Unfoldings
mod Listing
mod Differ
mod Loops
mod TargetLaws
mod CallLaws
mod PlaceLaws
mod Nesting
mod StmtLaws
mod BlockLaws
mod DeclLaws
pub mod Tells
pub mod TermSound
pub mod TermFinds
pub mod AssertionLaws
pub mod StmtSound
pub mod StmtFinds
pub mod BodyLaws
pub mod ProgramFinds
pub mod ProgramSound
pub mod ProgramLaws
pub mod TermTypes
pub mod TermDepth
pub mod GoodLists
pub mod Rising
pub mod Scopes
pub mod StmtParts
pub mod SameTargets
pub mod StmtTypes
pub mod StmtDepth
pub mod NamesApart
pub mod FormalScopes
pub mod PredicateFormed
pub mod MethodFormed
pub mod Assembled
pub mod WorldLaws
pub mod FormedProgram
mod Lean
pub mod CopiedTerms
mod CopiedStmts
mod CopiedProgram
mod CheckLaws
