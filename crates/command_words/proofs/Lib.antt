mod SynopsisLemmas
mod ItemLemmas
mod CutLemmas
mod OneCommand
mod RowLemmas
mod RuleLemmas
mod TurnLemmas
mod HoldLemmas
mod WalkLemmas
mod LeafLemmas
mod AppLemmas
mod MatchLemmas
mod CommandLemmas
mod EachCommand
mod VerbLemmas
mod LineLemmas
mod OptionLemmas
pub mod WatchLemmas
