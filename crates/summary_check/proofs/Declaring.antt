-- Schemas and Channels behind a Data End.
use Rattle.std.proofs.Common.{◌≡◌, ℕ, zero, suc, Bool, true, false, ◌||◌, ◌==◌, List, [], ◌∷◌, ◌++◌, take, cond, refl, sym, ap, subst, inl, inr, ◌∙◌, append-nil, None}
use Rattle.std.specs.Prelude.{filter, if◌then◌else◌}
use Rattle.std.proofs.lemmas.Bool.{ne_eqb}
use Rattle.mcap_model.specs.Places.{At}
use Rattle.mcap_model.specs.Tops.{Top, is_chunk, inner_tops, is_flat_kind, flattened, flat}
use Rattle.mcap_model.specs.Rules.{V6, V7, Agrees}
use Rattle.mcap_model.specs.Declarations.{TablesOf, BreaksFlat}
use Rattle.mcap_model.specs.declared.tables.Tables.{Tables}
use Rattle.mcap_model.proofs.Flat.{flat_more}
use Rattle.mcap_model.proofs.Front.{IsTail, tail_not}
use Rattle.mcap_model.proofs.Histories.{flat_none}
use Rattle.mcap_model.proofs.Places.{at_none}
use Rattle.mcap_model.specs.declared.rules.Rule.{Rule}
use Rattle.std.proofs.lemmas.Option.{same_Some}
use Rattle.summary_read.specs.Steps.{Judged}
use Rattle.summary_check.specs.Declaring.{DeclarationTaken}

-- a record of another kind holds no Schema, no Channel and no Message
pub silent_flat : (t : Top) → (t.op ≡ 3 → ⊥) → (t.op ≡ 4 → ⊥) → (t.op ≡ 5 → ⊥) → (t.op ≡ 6 → ⊥) → flattened t ≡ []
silent_flat t schema channel message chunk =
    let closed : is_chunk t ≡ false = ne_eqb t.op 6 chunk in
    let three : (3 == t.op) ≡ false = ne_eqb 3 t.op (λ e. schema (sym e)) in
    let four : (4 == t.op) ≡ false = ne_eqb 4 t.op (λ e. channel (sym e)) in
    let five : (5 == t.op) ≡ false = ne_eqb 5 t.op (λ e. message (sym e)) in
    let other : is_flat_kind t ≡ false =
    ap (λ (b : Bool). b || ((4 == t.op) || ((5 == t.op) || false))) three
    ∙ ap (λ (b : Bool). b || ((5 == t.op) || false)) four
    ∙ ap (λ (b : Bool). b || false) five in
    ap (λ (b : Bool). filter is_flat_kind (if b then inner_tops t else t ∷ [])) closed ∙ ap (λ (b : Bool). cond b (t ∷ []) []) other

-- a record of a summary that declares nothing
silent : (t : Top) → (t.op ≡ 3 → ⊥) → (t.op ≡ 4 → ⊥) → Judged t None → flattened t ≡ []
silent t schema channel judged =
    let tail : IsTail t = record { kind = judged.0; v6 = judged.1 } in
    silent_flat t schema channel (tail_not t 5 tail refl) (tail_not t 6 tail refl)

pub silent_taken : (before : List Top) (t : Top) (tables : Tables) → (t.op ≡ 3 → ⊥) → (t.op ≡ 4 → ⊥) → TablesOf (flat before) tables → Judged t None → DeclarationTaken before t tables true
silent_taken before t tables schema channel are judged =
    let none = silent t schema channel judged in (
      flat_none before t none,
      subst (λ (l : List Top). TablesOf l tables) (sym (flat_more before t ∙ ap (λ (l : List Top). flat before ++ l) none ∙ append-nil (flat before))) are,
    )

agrees_alone : (before : List Top) (t : Top) → flattened t ≡ t ∷ [] → Agrees (flat before) t → V7 before t
agrees_alone before t alone agrees n u at = by n (subst (λ (l : List Top). At l n u) alone at)
  where
    by : (n : ℕ) → At (t ∷ []) n u → Agrees (flat before ++ take n (flattened t)) u
    by zero here = subst (λ (l : List Top). Agrees l u) (sym (append-nil (flat before))) (subst (Agrees (flat before)) (same_Some t u here) agrees)
    by (suc n) here = absurd (at_none n u here)

alone_agrees : (before : List Top) (t : Top) → flattened t ≡ t ∷ [] → V7 before t → Agrees (flat before) t
alone_agrees before t alone v7 = subst (λ (l : List Top). Agrees l t) (append-nil (flat before)) (v7 0 t (subst (λ (l : List Top). At l 0 t) (sym alone) refl))

pub declared_taken : (before : List Top) (t : Top) (tables : Tables) → flattened t ≡ t ∷ [] → Agrees (flat before) t → TablesOf (flat before ++ t ∷ []) tables → DeclarationTaken before t tables true
declared_taken before t tables alone agrees are = (
  agrees_alone before t alone agrees,
  subst (λ (l : List Top). TablesOf l tables) (sym (flat_more before t ∙ ap (λ (l : List Top). flat before ++ l) alone)) are,
)

pub declared_refused : (before : List Top) (t : Top) (rule : Rule) → flattened t ≡ t ∷ [] → BreaksFlat (flat before) t rule → V6 t → V7 before t → ⊥
declared_refused before t rule alone (inl (_, bad)) v6 v7 = bad v6
declared_refused before t rule alone (inr (_, _, bad)) v6 v7 = bad (alone_agrees before t alone v7)
