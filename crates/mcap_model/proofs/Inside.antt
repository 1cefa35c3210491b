-- Walking over the records inside a chunk.
use Rattle.std.proofs.Common.{◌≡◌, ◌⊎◌, ℕ, zero, suc, Some, Err, ◌<◌, ◌≤◌, Bool, true, false, ◌||◌, eqb, List, [], ◌∷◌, ◌++◌, length, filter, cond, refl, sym, ap, subst, inl, inr, ◌∙◌, append_assoc, arith}
use Rattle.std.specs.Prelude.{nat_le}
use Rattle.std.specs.List.{list_any}
use Rattle.std.proofs.lemmas.Bool.{both_ways, ne_eqb, le-leb, lt-leb, or_right}
use Rattle.std.proofs.lemmas.List.{append-nil, length-append}
use Rattle.std.proofs.lemmas.List.Elements.{filter-append}
use Rattle.std.proofs.lemmas.Grind.{flat_map-append}
use Rattle.mcap_model.specs.Places.{At, Each}
use Rattle.mcap_model.specs.Tops.{Top, top_bytes, spelled, records_in, is_flat_kind}
use Rattle.mcap_model.specs.Rules.{V6, Agrees, stands_in_chunk}
use Rattle.mcap_model.proofs.Places.{at_none, at_last, each_more, each_at}
use Rattle.mcap_model.specs.declared.inner.Inner.{Inner}
use Rattle.mcap_model.specs.declared.tables.Tables.{Tables}
use Rattle.mcap_model.specs.declared.times.Times.{Times}
use Rattle.mcap_model.specs.Declarations.{TablesOf}
use Rattle.mcap_model.specs.Times.{TimesOf}
use Rattle.mcap_model.specs.Walk.{inner_top, StepsOver}
use Rattle.mcap_model.specs.declared.tables.Ruling.{Ruling}
use Rattle.mcap_model.specs.declared.tables.Ruling.TheVariants as rulings
use Rattle.mcap_model.specs.Made.{top}
use Rattle.mcap_model.specs.Chunked.{flat_of, AgreeBehind, IsInner, BreaksInner, InnerTaken, AreWhole, AllTaken}
use Rattle.mcap_model.proofs.Meets.{unknown_meets}
use Rattle.mcap_model.proofs.Lists.{each_joined}
use Rattle.mcap_model.specs.declared.rules.Rule.{Rule}
use Rattle.mcap_model.specs.declared.rules.Rule.TheVariants as rules

-- ---- kinds

none_of : (op : ℕ) → (op ≡ 3 → ⊥) → (op ≡ 4 → ⊥) → (op ≡ 5 → ⊥) → list_any (λ kind. eqb kind op) (3 ∷ 4 ∷ 5 ∷ []) ≡ false
none_of op a b c =
    let x = ne_eqb 3 op (λ e. a (sym e)) in
    let y = ne_eqb 4 op (λ e. b (sym e)) in
    let z = ne_eqb 5 op (λ e. c (sym e)) in
    ap (λ (v : Bool). v || (eqb 4 op || (eqb 5 op || false))) x ∙ ap (λ (v : Bool). v || (eqb 5 op || false)) y ∙ ap (λ (v : Bool). v || false) z

pub unknown_stands : (op : ℕ) → 16 ≤ op → stands_in_chunk op ≡ true
unknown_stands op high = or_right (list_any (λ kind. eqb kind op) (3 ∷ 4 ∷ 5 ∷ [])) (nat_le 16 op) (le-leb 16 op high)

pub unknown_not_flat : (t : Top) → 16 ≤ t.op → is_flat_kind t ≡ false
unknown_not_flat t high = none_of t.op (λ e. omega (arith, e, high)) (λ e. omega (arith, e, high)) (λ e. omega (arith, e, high))

pub other_not : (op : ℕ) → (op ≡ 3 → ⊥) → (op ≡ 4 → ⊥) → (op ≡ 5 → ⊥) → op < 16 → stands_in_chunk op ≡ false
other_not op a b c low = ap (λ (v : Bool). v || nat_le 16 op) (none_of op a b c) ∙ lt-leb 16 op low

-- ---- the flat ones among records

pub flat_of_more : (inner : List Top) (t : Top) → is_flat_kind t ≡ true → flat_of (inner ++ t ∷ []) ≡ flat_of inner ++ t ∷ []
flat_of_more inner t is =
    filter-append is_flat_kind inner (t ∷ []) ∙ ap (λ (b : Bool). filter is_flat_kind inner ++ cond b (t ∷ []) []) is

pub flat_of_same : (inner : List Top) (t : Top) → is_flat_kind t ≡ false → flat_of (inner ++ t ∷ []) ≡ flat_of inner
flat_of_same inner t is =
    filter-append is_flat_kind inner (t ∷ []) ∙ ap (λ (b : Bool). filter is_flat_kind inner ++ cond b (t ∷ []) []) is ∙ append-nil (filter is_flat_kind inner)

flat_of_there : (inner more : List Top) (t : Top) → is_flat_kind t ≡ true → flat_of (inner ++ t ∷ more) ≡ flat_of inner ++ t ∷ flat_of more
flat_of_there inner more t is =
    filter-append is_flat_kind inner (t ∷ more) ∙ ap (λ (b : Bool). filter is_flat_kind inner ++ cond b (t ∷ filter is_flat_kind more) (filter is_flat_kind more)) is

pub tables_more : (before inner : List Top) (t : Top) (tables : Tables) → is_flat_kind t ≡ true → TablesOf ((before ++ flat_of inner) ++ t ∷ []) tables → TablesOf (before ++ flat_of (inner ++ t ∷ [])) tables
tables_more before inner t tables is are =
    subst (λ (l : List Top). TablesOf l tables) (append_assoc before (flat_of inner) (t ∷ []) ∙ ap (λ (l : List Top). before ++ l) (sym (flat_of_more inner t is))) are

pub tables_same : (before inner : List Top) (t : Top) (tables : Tables) → is_flat_kind t ≡ false → TablesOf (before ++ flat_of inner) tables → TablesOf (before ++ flat_of (inner ++ t ∷ [])) tables
tables_same before inner t tables is are = subst (λ (l : List Top). TablesOf (before ++ l) tables) (sym (flat_of_same inner t is)) are

-- ---- how far a walk is

pub record Walked (before : List Top) (records rest : List ℕ) (tables : Tables) (times : Times) (inner : List Top) : Type 0 where
  pub found : records_in records ≡ inner ++ records_in rest
  pub bytes : records ≡ spelled inner ++ rest
  pub kinds : Each (λ u. stands_in_chunk u.op ≡ true) inner
  pub layouts : Each V6 inner
  pub agrees : AgreeBehind before (flat_of inner)
  pub tables_are : TablesOf (before ++ flat_of inner) tables
  pub times_are : TimesOf inner times

pub walk_starts : (before : List Top) (records rest : List ℕ) (tables : Tables) (times : Times) → rest ≡ records → TablesOf before tables → TimesOf [] times → Walked before records rest tables times []
walk_starts before records rest tables times same are none = record {
  found = ap records_in (sym same);
  bytes = sym same;
  kinds = λ n u at. absurd (at_none n u at);
  layouts = λ n u at. absurd (at_none n u at);
  agrees = λ n u at. absurd (at_none n u at);
  tables_are = subst (λ (l : List Top). TablesOf l tables) (sym (append-nil before)) are;
  times_are = none;
}

each_one : (P : Top → Type 0) (t : Top) → P t → Each P (t ∷ [])
each_one P t p n u at = by n u at
  where
    some_one : (x y : Top) → Some x ≡ Some y → x ≡ y
    some_one x y e = cc

    by : (n : ℕ) (u : Top) → At (t ∷ []) n u → P u
    by zero u at = subst P (some_one t u at) p
    by (suc n) u at = absurd (at_none n u at)

pub walk_steps : (before : List Top) (records rest : List ℕ) (tables more_tables : Tables) (times more_times : Times) (inner : List Top) (at at_new : ℕ) (rest_new : List ℕ) (x : Inner)
    → Walked before records rest tables times inner → StepsOver at rest at_new rest_new x → IsInner before inner (inner_top x)
    → TablesOf (before ++ flat_of (inner ++ inner_top x ∷ [])) more_tables → TimesOf (inner ++ inner_top x ∷ []) more_times
    → Walked before records rest_new more_tables more_times (inner ++ inner_top x ∷ [])
walk_steps before records rest tables more_tables times more_times inner at at_new rest_new x was step is tables_are times_are =
    let t = inner_top x in
    record {
      found = was.found ∙ ap (λ (l : List Top). inner ++ l) step.first ∙ sym (append_assoc inner (t ∷ []) (records_in rest_new));
      bytes = was.bytes ∙ ap (λ (l : List ℕ). spelled inner ++ l) step.split ∙ sym (append_assoc (spelled inner) (top_bytes t) rest_new) ∙ ap (λ (l : List ℕ). l ++ rest_new) (sym (spelled_more inner t));
      kinds = each_joined (λ u. stands_in_chunk u.op ≡ true) inner (t ∷ []) was.kinds (each_one (λ u. stands_in_chunk u.op ≡ true) t is.kind);
      layouts = each_joined V6 inner (t ∷ []) was.layouts (each_one V6 t is.layout);
      agrees = by (is_flat_kind t) refl;
      tables_are = tables_are;
      times_are = times_are;
    }
  where
    spelled_more : (xs : List Top) (t : Top) → spelled (xs ++ t ∷ []) ≡ spelled xs ++ top_bytes t
    spelled_more xs t = flat_map-append top_bytes xs (t ∷ []) ∙ ap (λ (l : List ℕ). spelled xs ++ l) (append-nil (top_bytes t))

    by : (b : Bool) → is_flat_kind (inner_top x) ≡ b → AgreeBehind before (flat_of (inner ++ inner_top x ∷ []))
    by true flattened = subst (AgreeBehind before) (sym (flat_of_more inner (inner_top x) flattened)) (each_more (λ (l : List Top) (u : Top). Agrees (before ++ l) u) (flat_of inner) (inner_top x) was.agrees (is.agrees flattened))
    by false flattened = subst (AgreeBehind before) (sym (flat_of_same inner (inner_top x) flattened)) was.agrees

-- ---- where it ends

pub record AllWalked (before : List Top) (records : List ℕ) (tables : Tables) (times : Times) : Type 0 where
  pub whole : AreWhole records
  pub agrees : AgreeBehind before (flat_of (records_in records))
  pub tables_are : TablesOf (before ++ flat_of (records_in records)) tables
  pub times_are : TimesOf (records_in records) times

all_found : (inner : List Top) (records rest : List ℕ) → records_in records ≡ inner ++ records_in rest → records_in rest ≡ [] → inner ≡ records_in records
all_found inner records rest found none = sym (append-nil inner) ∙ ap (λ (l : List Top). inner ++ l) (sym none) ∙ sym found

pub walk_ends : (before : List Top) (records rest : List ℕ) (tables : Tables) (times : Times) (inner : List Top) → Walked before records rest tables times inner → records_in rest ≡ [] → rest ≡ [] → AllWalked before records tables times
walk_ends before records rest tables times inner was none empty =
    let all : inner ≡ records_in records = all_found inner records rest was.found none in
    record {
      whole = record {
        framed = ap spelled (sym all) ∙ sym (append-nil (spelled inner)) ∙ ap (λ (l : List ℕ). spelled inner ++ l) (sym empty) ∙ sym was.bytes;
        kinds = subst (Each (λ u. stands_in_chunk u.op ≡ true)) all was.kinds;
        layouts = subst (Each V6) all was.layouts;
      };
      agrees = subst (λ (l : List Top). AgreeBehind before (flat_of l)) all was.agrees;
      tables_are = subst (λ (l : List Top). TablesOf (before ++ flat_of l) tables) all was.tables_are;
      times_are = subst (λ (l : List Top). TimesOf l times) all was.times_are;
    }

pub walk_cut : (before : List Top) (records rest : List ℕ) (tables : Tables) (times : Times) (inner : List Top) → Walked before records rest tables times inner → records_in rest ≡ [] → (rest ≡ [] → ⊥) → AreWhole records → ⊥
walk_cut before records rest tables times inner was none some whole =
    let all : inner ≡ records_in records = all_found inner records rest was.found none in
    let size : length (spelled inner) ≡ length records = ap length (ap spelled all ∙ whole.framed) in
    some (nothing rest (omega (arith, size, ap length was.bytes, length-append (spelled inner) rest)))
  where
    nothing : (l : List ℕ) → length l ≤ 0 → l ≡ []
    nothing [] few = refl
    nothing (b ∷ bs) few = absurd (omega (arith, few))

-- a record at which it halts
pub walk_halts : (before : List Top) (records rest : List ℕ) (tables : Tables) (times : Times) (inner : List Top) (at at_new : ℕ) (rest_new : List ℕ) (x : Inner) (rule : Rule)
    → Walked before records rest tables times inner → StepsOver at rest at_new rest_new x → BreaksInner before inner (inner_top x) rule
    → ((rule ≡ rules.V7) × (AgreeBehind before (flat_of (records_in records)) → ⊥)) ⊎ ((rule ≡ rules.V7 → ⊥) × (AreWhole records → ⊥))
walk_halts before records rest tables times inner at at_new rest_new x rule was step breaks =
    let t = inner_top x in
    let there : records_in records ≡ inner ++ t ∷ records_in rest_new = was.found ∙ ap (λ (l : List Top). inner ++ l) step.first in
    let here : At (records_in records) (length inner) t = subst (λ (l : List Top). At l (length inner) t) (sym there) (at_last inner t (records_in rest_new)) in
    elim breaks [
      | inl ids ↦ inl (
        ids.0,
        λ agrees.
            let apart = subst (AgreeBehind before) (ap flat_of there ∙ flat_of_there inner (records_in rest_new) t ids.1) agrees in
            ids.2 (each_at (λ (l : List Top) (u : Top). Agrees (before ++ l) u) (flat_of inner) t (flat_of (records_in rest_new)) apart),
      )
      | inr layout ↦ inr (layout.0, λ whole. layout.1 (whole.kinds (length inner) t here) (whole.layouts (length inner) t here))
    ]

-- ---- one record inside a chunk

-- a Schema, a Channel or a Message, whose opcode is known
pub flat_inner : (before inner : List Top) (op n : ℕ) (content : List ℕ) (tables : Tables) → op ≡ n → stands_in_chunk n ≡ true → is_flat_kind (top n content) ≡ true
    → V6 (top n content) → Agrees (before ++ flat_of inner) (top n content) → TablesOf ((before ++ flat_of inner) ++ top n content ∷ []) tables
    → IsInner before inner (top op content) × TablesOf (before ++ flat_of (inner ++ top op content ∷ [])) tables
flat_inner before inner op n content tables is stands flattened layout agrees are =
    subst (λ (m : ℕ). IsInner before inner (top m content) × TablesOf (before ++ flat_of (inner ++ top m content ∷ [])) tables) (sym is)
    (record { kind = stands; layout = layout; agrees = λ e. agrees }, tables_more before inner (top n content) tables flattened are)

pub unknown_inner : (before inner : List Top) (op : ℕ) (content : List ℕ) (tables : Tables) → 16 ≤ op → TablesOf (before ++ flat_of inner) tables
    → IsInner before inner (top op content) × TablesOf (before ++ flat_of (inner ++ top op content ∷ [])) tables
unknown_inner before inner op content tables high are =
    let silent = unknown_not_flat (top op content) high in (
      record { kind = unknown_stands op high; layout = unknown_meets (top op content) high; agrees = λ e. absurd (both_ways (is_flat_kind (top op content)) silent e) },
      tables_same before inner (top op content) tables silent are,
    )

pub all_refused : (before : List Top) (records rest : List ℕ) (tables more_tables : Tables) (times : Times) (inner : List Top) (at at_new : ℕ) (rest_new : List ℕ) (x : Inner) (ruling : Ruling)
    → Walked before records rest tables times inner → StepsOver at rest at_new rest_new x → InnerTaken before inner (inner_top x) more_tables (Err ruling) → AllTaken before records more_tables (Err ruling)
all_refused before records rest tables more_tables times inner at at_new rest_new x rulings.Fits was step refused = refused
all_refused before records rest tables more_tables times inner at at_new rest_new x (rulings.Breaks rule) was step refused = walk_halts before records rest tables times inner at at_new rest_new x rule was step refused
all_refused before records rest tables more_tables times inner at at_new rest_new x rulings.Memory was step refused = tt
