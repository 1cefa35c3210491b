-- Bytes that are cut into pieces, and what it comes to when they are appended one behind the other.
use Rattle.std.specs.Prelude.{◌≡◌, ℕ, ◌+◌, ◌≤◌, List, ◌∷◌, ◌++◌, length, Option, Result, Ok, Err}
use Rattle.std.specs.List.{concat}
use Rattle.mcap_io.specs.declared.outside.AppendRefused.TheVariants as append_refusals
use Rattle.mcap_io.specs.declared.outside.EachRefused.{EachRefused}
use Rattle.mcap_io.specs.Outside.{Adds}
use Rattle.mcap_io.specs.OutsideCalls.{AppendCause, AppendLeaves}

-- one of the pieces begins at that offset of their bytes
pub record BeginsAt (pieces : List (List ℕ)) (at : ℕ) : Type 0 where
  pub before : List (List ℕ)
  pub piece : List ℕ
  pub behind : List (List ℕ)
  pub cut : pieces ≡ before ++ piece ∷ behind
  pub place : at ≡ length (concat before)

-- whichever begins there ends there
abbrev pub EndsAt : List (List ℕ) → ℕ → ℕ → Type 0
EndsAt pieces at end = (before : List (List ℕ)) (piece : List ℕ) (behind : List (List ℕ))
    → pieces ≡ before ++ piece ∷ behind → at ≡ length (concat before) → end ≡ at + length piece

-- these are its bytes, and it ends there
abbrev pub IsPieceAt : List (List ℕ) → ℕ → List ℕ → ℕ → Type 0
IsPieceAt pieces at bytes end = (before : List (List ℕ)) (piece : List ℕ) (behind : List (List ℕ))
    → pieces ≡ before ++ piece ∷ behind → at ≡ length (concat before) → (bytes ≡ piece) × (end ≡ at + length piece)

-- so many first bytes of all are the pieces before one and the bytes that were taken of that
pub record FallsIn (pieces : List (List ℕ)) (taken : ℕ) (refused : EachRefused) : Type 0 where
  pub at : BeginsAt pieces refused.whole
  pub of_it : ℕ
  pub why_is : refused.why ≡ append_refusals.Failed of_it
  pub within : of_it ≤ length at.piece
  pub all : refused.whole + of_it ≡ taken

-- The pieces before one were appended, and that one was refused.
pub record EachLeaves (old new : Option (List ℕ)) (pieces : List (List ℕ)) (refused : EachRefused) : Type 0 where
  pub at : BeginsAt pieces refused.whole
  pub between : Option (List ℕ)
  pub front : Adds old between (concat at.before)
  pub leaves : AppendLeaves between new at.piece refused.why

-- the count stands still where all pieces were appended; else it is as it is behind the append that was refused
abbrev pub EachCause : ℕ → ℕ → Result Unit EachRefused → Type 0
EachCause before now (Ok it) = now ≡ before
EachCause before now (Err refused) = AppendCause {T = Unit} before now (Err refused.why)
