-- A walk over pieces, each of which is appended in a call of its own, where a plan says which calls fail.
use Rattle.std.proofs.Common.{◌≡◌, ℕ, ◌+◌, ◌-◌, ◌<◌, ◌≤◌, List, [], ◌∷◌, ◌++◌, length, Option, Some, None, Err, refl, sym, ap, subst, ◌∙◌}
use Rattle.std.specs.Prelude.{All}
use Rattle.std.specs.List.{concat}
use Rattle.mcap_io.specs.declared.outside.AppendRefused.{AppendRefused}
use Rattle.mcap_io.specs.declared.outside.AppendRefused.TheVariants as append_refusals
use Rattle.io_memory.specs.declared.memory.FailingWrite.{FailingWrite}
use Rattle.mcap_io.specs.Outside.{Adds}
use Rattle.mcap_io.specs.Appending.{IsPieceAt}
use Rattle.io_memory.specs.Planned.{next_call, planned, calls_on, NoneFails, AppendsAsPlanned, FailsAsPlanned}
use Rattle.mcap_io.proofs.Appending.{Added, added-none, added-more, begins-here, all-walked}

-- the numbers of the calls go on
calls-append : (call : ℕ) (xs ys : List (List ℕ)) → calls_on call (xs ++ ys) ≡ calls_on (calls_on call xs) ys
calls-append call [] ys = refl
calls-append call (x ∷ xs) ys = calls-append (next_call call) xs ys

none-append : (failing : List FailingWrite) (call : ℕ) (xs : List (List ℕ)) (piece : List ℕ) → NoneFails failing call xs → planned failing (calls_on call xs) (length piece) ≡ None → NoneFails failing call (xs ++ piece ∷ [])
none-append failing call [] piece none last = (last, tt)
none-append failing call (x ∷ xs) piece none last = (none.0, none-append failing (next_call call) xs piece none.1 last)

-- the same, each in a call of its own
pub record AddedAsPlanned (old now : Option (List ℕ)) (failing : List FailingWrite) (call next : ℕ) (pieces : List (List ℕ)) (at : ℕ) : Type 0 where
  pub added : Added old now pieces at
  pub none : NoneFails failing call added.walked.before
  pub counted : next ≡ calls_on call added.walked.before

pub planned-none : (old : Option (List ℕ)) (failing : List FailingWrite) (call : ℕ) (pieces : List (List ℕ)) → AddedAsPlanned old old failing call call pieces 0
planned-none old failing call pieces = record { added = added-none old pieces; none = tt; counted = refl }

pub planned-more : (old mid new : Option (List ℕ)) (failing : List FailingWrite) (call next later : ℕ) (pieces : List (List ℕ)) (bytes : List ℕ) (at end len : ℕ) → AddedAsPlanned old mid failing call next pieces at → at < len → len ≡ length (concat pieces) → IsPieceAt pieces at bytes end
    → Adds mid new bytes → planned failing next (length bytes) ≡ None → later ≡ next_call next → AddedAsPlanned old new failing call later pieces end
planned-more old mid new failing call next later pieces bytes at end len so_far less same found adds plan counted =
    let b = begins-here pieces at len so_far.added.walked less same in
    let it = found b.before b.piece b.behind b.cut b.place in
    record {
      added = added-more old mid new pieces bytes at end len so_far.added less same found adds;
      none = none-append failing call b.before b.piece so_far.none (ap (λ (n : ℕ). planned failing n (length b.piece)) (sym so_far.counted) ∙ ap (λ (l : List ℕ). planned failing next (length l)) (sym it.0) ∙ plan);
      counted = counted ∙ ap next_call so_far.counted ∙ sym (calls-append call b.before (b.piece ∷ []));
    }

pub planned-all : (old now : Option (List ℕ)) (failing : List FailingWrite) (call next : ℕ) (pieces : List (List ℕ)) (at len : ℕ) → AddedAsPlanned old now failing call next pieces at → len ≤ at → len ≡ length (concat pieces) → All (λ (p : List ℕ). 0 < length p) pieces
    → NoneFails failing call pieces × (next ≡ calls_on call pieces)
planned-all old now failing call next pieces at len so_far none same some =
    let walked = so_far.added.walked in
    let all = all-walked pieces at len walked none same some in
    (subst (λ (l : List (List ℕ)). NoneFails failing call l) (sym all) so_far.none, so_far.counted ∙ ap (calls_on call) (sym all))

-- whatever the call would have answered
pub fails-so : (T : Type 0) (plan : Option ℕ) (why : AppendRefused) → AppendsAsPlanned {T = T} plan (Err why) → AppendsAsPlanned {T = Unit} plan (Err why)
fails-so T plan (append_refusals.Failed taken) fails = fails
fails-so T plan append_refusals.Memory fails = tt

pub planned-fails : (old mid : Option (List ℕ)) (failing : List FailingWrite) (call next later : ℕ) (pieces : List (List ℕ)) (bytes : List ℕ) (at end len : ℕ) (why : AppendRefused) → AddedAsPlanned old mid failing call next pieces at → at < len → len ≡ length (concat pieces) → IsPieceAt pieces at bytes end
    → AppendsAsPlanned {T = Unit} (planned failing next (length bytes)) (Err why) → later ≡ next_call next → FailsAsPlanned failing call later pieces (record { whole = at; why = why })
planned-fails old mid failing call next later pieces bytes at end len why so_far less same found fails counted =
    let b = begins-here pieces at len so_far.added.walked less same in
    let it = found b.before b.piece b.behind b.cut b.place in
    record {
      at = b;
      none = so_far.none;
      fails = subst (λ (o : Option ℕ). AppendsAsPlanned {T = Unit} o (Err why)) (ap (λ (n : ℕ). planned failing n (length bytes)) so_far.counted ∙ ap (λ (l : List ℕ). planned failing (calls_on call b.before) (length l)) it.0) fails;
      counted = counted ∙ ap next_call so_far.counted;
    }
