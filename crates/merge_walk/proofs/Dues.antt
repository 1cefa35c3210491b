-- The pieces that are loaded until it is known which message is next.
use Rattle.std.proofs.Common.{◌≡◌, ℕ, ◌≤◌, Bool, true, false, List, length, refl, sym, ap, subst, ◌∙◌, Option, Some, None, Ok, Err, arith}
use Rattle.std.proofs.lemmas.Bool.{both_ways}
use Rattle.mcap_io.specs.Stores.{StoreState}
use Rattle.mcap_model.specs.Places.{At}
use Rattle.merge_walk.specs.declared.turns.WalkRefused.{WalkRefused}
use Rattle.merge_walk.specs.declared.pieces.Piece.{Piece}
use Rattle.merge_walk.specs.declared.walk.Walk.{Walk}
use Rattle.merge_walk.specs.Pieces.{InputBytes}
use Rattle.merge_walk.specs.Cursors.{FindsFirstCursor, TellsBefore}
use Rattle.merge_walk.specs.Stores.{files_of, StoresFit, LeavesStores}
use Rattle.merge_walk.specs.Walks.{AllLeft, StandsBehindSome, NextIsDue, LoadsNext, IsWalkRefused, DueIs, StandsFrom, FindsDue}
use Rattle.merge_walk.proofs.Loading.{left_more}
use Rattle.merge_walk.proofs.Stayed.{files_stay, fit_on, leaves_so, leaves_on}
use Rattle.merge_walk.proofs.Walked.{due_some, next_is_due, none_is_due, from_itself, one_more_loaded, stands_now, refused_from}

-- what holds before each piece that is loaded
pub record DueSoFar (olds nows : List StoreState) (start now : Walk) : Type 0 where
  pub left : AllLeft now
  pub pieces : now.pieces ≡ start.pieces
  pub later : start.next ≤ now.next
  pub fits : StoresFit nows now.pieces.items
  pub leaves : LeavesStores olds nows start now (Ok (tt {0}))
  pub stands : StandsFrom (files_of olds) start now

pub due_begins : (stores : List StoreState) (w : Walk) → AllLeft w → StoresFit stores w.pieces.items → DueSoFar stores stores w w
due_begins stores w left fits = record {
  left = left;
  pieces = refl;
  later = omega arith;
  fits = fits;
  leaves = leaves_so stores w w (tt {0}) refl refl;
  stands = from_itself (files_of stores) w;
}

module _ (olds nows : List StoreState) (start now : Walk) (was : DueSoFar olds nows start now) where
  same_files : files_of nows ≡ files_of olds
  same_files = files_stay olds nows was.leaves.stay

  pub due_goes_on : (news : List StoreState) (new : Walk) → LoadsNext (files_of nows) now new → LeavesStores nows news now new (Ok (tt {0})) → NextIsDue now → DueSoFar olds news start new
  due_goes_on news new loads leaves due =
      let there : LoadsNext (files_of olds) now new = subst (λ (f : InputBytes). LoadsNext f now new) same_files loads in
      let next = loads.next in
      let later = was.later in
      record {
        left = left_more (files_of olds) now new was.left there;
        pieces = loads.pieces ∙ was.pieces;
        later = omega (arith, next, later);
        fits = subst (λ (l : List Piece). StoresFit news l) (sym (ap (λ v. v.items) loads.pieces)) (fit_on nows news now.pieces.items was.fits leaves.stay);
        leaves = leaves_on olds nows news start now new (tt {0}) (Ok (tt {0})) was.leaves leaves;
        stands = one_more_loaded (files_of olds) start now new was.stands there was.left due;
      }

  pub due_stands : StandsBehindSome (files_of olds) start → StandsBehindSome (files_of nows) now
  due_stands stands = subst (λ (f : InputBytes). StandsBehindSome f now) (sym same_files) (stands_now (files_of olds) start now was.stands stands)

  -- how far it can have come
  pub due_within : StandsBehindSome (files_of olds) start → now.next ≤ length now.pieces.items
  due_within stands = let (texts, given, there) = due_stands stands in there.next

  pub due_found : (found : Option ℕ) → DueIs now found → FindsDue (files_of olds) start now found
  due_found found due = record { pieces = was.pieces; left = was.left; due = due; stands = was.stands }

  pub due_leaves : (found : Option ℕ) → LeavesStores olds nows start now (Ok found)
  due_leaves found = record { stay = was.leaves.stay; counts = was.leaves.counts; asked = was.leaves.asked }

  pub due_refused : (why : WalkRefused) → IsWalkRefused (files_of nows) now why → IsWalkRefused (files_of olds) start why
  due_refused why it = refused_from (files_of olds) start now why was.pieces was.later (subst (λ (f : InputBytes). IsWalkRefused f now why) same_files it)

  pub refused_leaves : (news : List StoreState) (new : Walk) (why : WalkRefused) → LeavesStores {X = Unit {0}} nows news now new (Err why) → LeavesStores {X = Option ℕ} olds news start new (Err why)
  refused_leaves news new why leaves =
      let all = leaves_on olds nows news start now new (tt {0}) (Err why) was.leaves leaves in
      record { stay = all.stay; counts = all.counts; asked = all.asked }

-- ---- which message is next

pub due_before_next : (w : Walk) (found : Option ℕ) (before : Bool) (next : Piece) → FindsFirstCursor w.cursors.items found → TellsBefore w.cursors.items found next before → At w.pieces.items w.next next → before ≡ true → DueIs w found
due_before_next w None before next none tells at is = absurd (never (sym is ∙ tells))
  where
    never : true ≡ false → ⊥
    never e = cc
due_before_next w (Some i) before next first (c, t, at_c, is_t, tells) at is = due_some w i c t next first at_c is_t at (tells.0 is)

pub next_before_due : (w : Walk) (found : Option ℕ) (before : Bool) (next : Piece) → FindsFirstCursor w.cursors.items found → TellsBefore w.cursors.items found next before → At w.pieces.items w.next next → before ≡ false → NextIsDue w
next_before_due w None before next none tells at is = none_is_due w none
next_before_due w (Some i) before next first (c, t, at_c, is_t, tells) at is = next_is_due w i c t next first at_c is_t at (λ less. both_ways before is (tells.1 less))
