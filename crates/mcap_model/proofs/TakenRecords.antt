-- Records that are taken, one behind the other, from a file that lies in memory.
use Rattle.std.proofs.Common.{◌≡◌, ◌↔◌, ℕ, ◌+◌, ◌-◌, ◌≤◌, Bool, true, false, List, [], ◌∷◌, ◌++◌, length, get_or, take, drop, IsTrue, refl, sym, ap, subst, inl, inr, ◌∙◌, arith}
use Rattle.std.specs.Prelude.{nat_lt}
use Rattle.std.proofs.lemmas.Bool.{or_parts, ltb-false, le-leb, lt-leb}
use Rattle.std.proofs.lemmas.List.{append-nil, length-append, length-drop, length-take, drop-drop, get_or-drop}
use Rattle.std.proofs.lemmas.Grind.{flat_map-append}
use Rattle.mcap_wire.specs.declared.faults.Cut.{Cut}
use Rattle.mcap_wire.specs.declared.faults.CutFault.{CutFault}
use Rattle.mcap_wire.specs.declared.faults.CutFault.TheVariants as cut_faults
use Rattle.mcap_wire.specs.Layout.{number, magic, NumberAt}
use Rattle.mcap_wire.specs.Reading.{CutFails, IsCut, content_length}
use Rattle.mcap_wire.proofs.Fields.{number_there}
use Rattle.mcap_model.specs.Places.{At}
use Rattle.mcap_model.specs.Tops.{Top, Tops, top_bytes, spelled, offset_behind, opcode, declared_length, has_head, is_whole, flattened, flat}
use Rattle.mcap_model.specs.Rules.{V1, HasDataEnd, Breaks, breaks_3}
use Rattle.mcap_model.specs.Kept.{reading_limits, is_beyond, NamesCompression, Fits, Good, Halt, at_end, grammar, compressed, beyond, HasOpcode, IsDue, HaltsThere, short_head, zero_opcode, past_limit, cut_short, packed_chunk, broken_rule, Halts, no_magic, at_data_end, behind_kept}
use Rattle.mcap_model.specs.Declarations.{TablesOf}
use Rattle.mcap_model.specs.Made.{top}
use Rattle.mcap_model.specs.Judging.{KeepsRules, JudgedAs, FirstJudged}
use Rattle.mcap_model.specs.WantsOfMemory.{NamesNoCompression}
use Rattle.mcap_model.specs.declared.tables.Tables.{Tables}
use Rattle.mcap_model.specs.declared.tops.Judged.{Judged}
use Rattle.mcap_model.specs.declared.tops.Judged.TheVariants as judged
use Rattle.mcap_model.specs.Plain.{ReadTo, TakesRecord, cut_top, uncut_rule}
use Rattle.mcap_model.proofs.Places.{at_none, each_more}
use Rattle.mcap_model.proofs.Readings.{Begun, begun, length-top, halts_are_last}
use Rattle.mcap_model.proofs.Histories.{header_meets}
use Rattle.mcap_model.proofs.Prefixes.{next_stands}
use Rattle.mcap_model.specs.declared.rules.Rule.{Rule}
use Rattle.mcap_model.specs.declared.rules.Rule.TheVariants as rules

-- ---- where a reading halts

pub halted : (bytes : List ℕ) (tops : List Top) (rest : List ℕ) (halt : Halt) → Tops bytes tops rest → Good reading_limits tops → (HasDataEnd tops → ⊥) → HaltsThere reading_limits tops rest halt → Halts reading_limits bytes tops halt
halted bytes tops rest halt stands good unended there = record {
  kept = halts_are_last bytes tops rest halt stands good (inr there);
  there = behind_kept rest stands unended halt there;
}

pub ended : (bytes : List ℕ) (tops : List Top) (rest : List ℕ) → Tops bytes tops rest → Good reading_limits tops → HasDataEnd tops → Halts reading_limits bytes tops (at_end (offset_behind tops))
ended bytes tops rest stands good end = record {
  kept = halts_are_last bytes tops rest (at_end (offset_behind tops)) stands good (inl end);
  there = at_data_end rest stands end;
}

pub none_good : Good reading_limits []
none_good n t at = absurd (at_none n t at)

-- bytes without the magic keep nothing
pub unread : (bytes : List ℕ) → (V1 bytes → ⊥) → Halts reading_limits bytes [] (grammar 0 rules.V1)
unread bytes none = record {
  kept = record {
    stands = inl refl;
    good = none_good;
    longest = λ others begins good. elim begins [
      | inl empty ↦ let size = ap length empty in omega (arith, size)
      | inr there ↦ let stands = there.1 in absurd (none (spelled others ++ there.0, stands.split))
    ];
  };
  there = no_magic none;
}

-- ---- a head

head_there : (bytes : List ℕ) (at : ℕ) → at + 9 ≤ length bytes → has_head (drop at bytes) ≡ true
head_there bytes at enough = le-leb 9 (length (drop at bytes)) (omega (arith, length-drop at bytes))

opcode_there : (bytes : List ℕ) (at : ℕ) → opcode (drop at bytes) ≡ get_or bytes at 0
opcode_there bytes at = get_or-drop at bytes 0 0 ∙ ap (λ (n : ℕ). get_or bytes n 0) (omega arith)

length_there : (bytes : List ℕ) (at : ℕ) → declared_length (drop at bytes) ≡ content_length bytes at
length_there bytes at = ap (λ (l : List ℕ). number (take 8 l)) (drop-drop 1 at bytes)

pub limit_read : (bytes : List ℕ) (at len end : ℕ) (b : Bool) → NumberAt 8 bytes (at + 1) len end → (get_or bytes at 0 ≡ 0 → ⊥) → b ≡ is_beyond reading_limits at len
    → IsTrue b ↔ (HasOpcode (drop at bytes) × (is_beyond reading_limits at (declared_length (drop at bytes)) ≡ true))
limit_read bytes at len end b there valid is =
    let field = there.field in
    let ends = field.ends in
    let size = there.size in
    let head : HasOpcode (drop at bytes) = (head_there bytes at (omega (arith, ends, size)), λ e. valid (sym (opcode_there bytes at) ∙ e)) in
    let declares : declared_length (drop at bytes) ≡ len = length_there bytes at ∙ number_there 8 bytes (at + 1) len end there in (
      (λ yes. (head, ap (is_beyond reading_limits at) declares ∙ sym is ∙ yes)),
      (λ past. is ∙ ap (is_beyond reading_limits at) (sym declares) ∙ past.1),
    )

-- ---- the first record

no_tops : (tops : List Top) → offset_behind tops ≡ 8 → tops ≡ []
no_tops [] is = refl
no_tops (t ∷ ts) is = absurd (omega (arith, is, length-append (top_bytes t) (spelled ts), length-top t))

pub header_silent : (t : Top) → t.op ≡ 1 → flat (t ∷ []) ≡ []
header_silent t is = append-nil (flattened t) ∙ subst (λ (n : ℕ). flattened (top n t.content) ≡ []) (sym is) refl

pub first_by : (op : ℕ) (content : List ℕ) (tables : Tables) (how : Judged) → FirstJudged (top op content) how → TablesOf [] tables → JudgedAs [] (top op content) tables how
first_by op content tables judged.Fits is are = (
  record {
    v3 = is;
    v5 = λ (e : op ≡ 0). omega (arith, is.kind, e);
    v6 = header_meets (top op content) is;
    v7 = λ n u at. absurd (at_none n u (subst (λ (l : List Top). At l n u) (sym (append-nil (flattened (top op content))) ∙ header_silent (top op content) is.kind) at));
    v8 = λ f shown plain. absurd (omega (arith, is.kind, shown.kind));
    v10 = λ f place kind stands. absurd (omega (arith, is.kind, kind));
    plain = λ name names. let shown = names.is in absurd (omega (arith, is.kind, shown.kind));
  },
  subst (λ (l : List Top). TablesOf l tables) (sym (header_silent (top op content) is.kind)) are,
)
first_by op content tables (judged.Breaks rule) (is, bad) are = ((λ some. absurd (some refl)), subst (Breaks [] (top op content)) (sym is) (breaks_3 bad))
first_by op content tables (judged.Compressed name) is are = absurd is
first_by op content tables judged.Memory is are = absurd is

pub first_judged : (tops : List Top) (at op : ℕ) (content : List ℕ) (tables : Tables) (how : Judged) → at ≡ 8 → at ≡ offset_behind tops → FirstJudged (top op content) how → TablesOf (flat tops) tables → JudgedAs tops (top op content) tables how
first_judged tops at op content tables how first place is are =
    let none = no_tops tops (sym place ∙ first) in
    subst (λ (l : List Top). JudgedAs l (top op content) tables how) (sym none)
    (first_by op content tables how is (subst (λ (l : List Top). TablesOf (flat l) tables) none are))

pub later_judged : (P : List Top → Type 0) (tops : List Top) (at : ℕ) → (at ≡ 8 → ⊥) → at ≡ offset_behind tops → ((first : Top) (more : List Top) → P (first ∷ more)) → P tops
later_judged P [] at other place each = absurd (other place)
later_judged P (first ∷ more) at other place each = each first more

-- ---- why no record is taken

within_there : (rest : List ℕ) (at : ℕ) (b : Bool) → is_beyond reading_limits at (declared_length rest) ≡ b → HasOpcode rest → (HasOpcode rest × (is_beyond reading_limits at (declared_length rest) ≡ true) → ⊥) → is_beyond reading_limits at (declared_length rest) ≡ false
within_there rest at true is head near = absurd (near (head, is))
within_there rest at false is head near = is

due_there : (tops : List Top) (rest : List ℕ) (at : ℕ) → at ≡ offset_behind tops → HasOpcode rest → (HasOpcode rest × (is_beyond reading_limits at (declared_length rest) ≡ true) → ⊥) → IsDue reading_limits tops rest
due_there tops rest at place head near = record {
  head = head;
  within = subst (λ (n : ℕ). is_beyond reading_limits n (declared_length rest) ≡ false) place (within_there rest at (is_beyond reading_limits at (declared_length rest)) refl head near);
}

pub past_there : (bytes : List ℕ) (at : ℕ) (tables : Tables) (tops : List Top) → ReadTo bytes at tables tops → HasOpcode (drop at bytes) × (is_beyond reading_limits at (declared_length (drop at bytes)) ≡ true) → Halts reading_limits bytes tops (beyond at)
past_there bytes at tables tops was past =
    halted bytes tops (drop at bytes) (beyond at) was.stands was.good was.unended
    (subst (λ (n : ℕ). HaltsThere reading_limits tops (drop at bytes) (beyond n)) (sym was.place)
    (past_limit past.0 (subst (λ (n : ℕ). is_beyond reading_limits n (declared_length (drop at bytes)) ≡ true) was.place past.1)))

grammar_there : (bytes : List ℕ) (at : ℕ) (tables : Tables) (tops : List Top) (rule : Rule) → ReadTo bytes at tables tops → HaltsThere reading_limits tops (drop at bytes) (grammar (offset_behind tops) rule)
    → (others : List Top) × Halts reading_limits bytes others (grammar at rule)
grammar_there bytes at tables tops rule was there = (
  tops,
  halted bytes tops (drop at bytes) (grammar at rule) was.stands was.good was.unended
      (subst (λ (n : ℕ). HaltsThere reading_limits tops (drop at bytes) (grammar n rule)) (sym was.place) there),
)

pub uncut : (bytes : List ℕ) (at : ℕ) (tables : Tables) (tops : List Top) (fault : CutFault) → ReadTo bytes at tables tops → (HasOpcode (drop at bytes) × (is_beyond reading_limits at (declared_length (drop at bytes)) ≡ true) → ⊥) → CutFails bytes at fault
    → (others : List Top) × Halts reading_limits bytes others (grammar at (uncut_rule fault))
uncut bytes at tables tops cut_faults.Short was near (inl few) =
    grammar_there bytes at tables tops rules.V4 was (short_head (lt-leb 9 (length (drop at bytes)) (omega (arith, length-drop at bytes, few))))
uncut bytes at tables tops cut_faults.Short was near (inr (head, short, few)) =
    let opcode : HasOpcode (drop at bytes) = (head_there bytes at head.0, λ e. head.1 (sym (opcode_there bytes at) ∙ e)) in
    let declares = length_there bytes at in
    let cut : is_whole (drop at bytes) ≡ false = lt-leb (9 + declared_length (drop at bytes)) (length (drop at bytes)) (omega (arith, length-drop at bytes, few, declares)) in
    grammar_there bytes at tables tops rules.V4 was (cut_short (due_there tops (drop at bytes) at was.place opcode near) cut)
uncut bytes at tables tops cut_faults.ZeroOp was near (enough, is) =
    grammar_there bytes at tables tops rules.V5 was (zero_opcode (head_there bytes at enough) (opcode_there bytes at ∙ is))
uncut bytes at tables tops (cut_faults.TooLong len) was near (head, is, long) =
    let opcode : HasOpcode (drop at bytes) = (head_there bytes at head.0, λ e. head.1 (sym (opcode_there bytes at) ∙ e)) in
    let within = within_there (drop at bytes) at (is_beyond reading_limits at (declared_length (drop at bytes))) refl opcode near in
    let parts = or_parts (nat_lt 268435456 (declared_length (drop at bytes))) (nat_lt 1099511627776 (at + 9 + declared_length (drop at bytes))) within in
    let short = ltb-false 268435456 (declared_length (drop at bytes)) parts.0 in
    absurd (omega (arith, short, long, is, length_there bytes at))

-- ---- a record that was cut

pub cut_begun : (bytes : List ℕ) (at : ℕ) (c : Cut) → IsCut bytes at c → Begun (drop at bytes) (cut_top bytes c)
cut_begun bytes at c is =
    let stands = is.stands in
    let within = is.within in
    begun (drop at bytes) (cut_top bytes c) (drop c.to bytes) stands.framed_there (omega (arith, within, length-take (c.to - c.from) (drop c.from bytes)))

cut_due : (bytes : List ℕ) (at : ℕ) (c : Cut) (tops : List Top) → IsCut bytes at c → at ≡ offset_behind tops → (HasOpcode (drop at bytes) × (is_beyond reading_limits at (declared_length (drop at bytes)) ≡ true) → ⊥) → IsDue reading_limits tops (drop at bytes)
cut_due bytes at c tops is place near =
    let front = cut_begun bytes at c is in
    due_there tops (drop at bytes) at place (front.head, λ (e : opcode (drop at bytes) ≡ 0). is.valid (sym front.op_is ∙ e)) near

pub cut_broken : (bytes : List ℕ) (at : ℕ) (c : Cut) (tables : Tables) (tops : List Top) (rule : Rule) → ReadTo bytes at tables tops → IsCut bytes at c → (HasOpcode (drop at bytes) × (is_beyond reading_limits at (declared_length (drop at bytes)) ≡ true) → ⊥)
    → ((tops ≡ [] → ⊥) → NamesNoCompression (cut_top bytes c)) × Breaks tops (cut_top bytes c) rule → (others : List Top) × Halts reading_limits bytes others (grammar at rule)
cut_broken bytes at c tables tops rule was is near (plain, breaks) =
    let front = cut_begun bytes at c is in
    grammar_there bytes at tables tops rule was
    (broken_rule rule (cut_due bytes at c tops is was.place near) front.whole
    (λ name packed. plain packed.0 name (subst (λ (x : Top). NamesCompression x name) front.first packed.1))
    (subst (λ (x : Top). Breaks tops x rule) (sym front.first) breaks))

pub cut_packed : (bytes : List ℕ) (at : ℕ) (c : Cut) (tables : Tables) (tops : List Top) (name : List ℕ) → ReadTo bytes at tables tops → IsCut bytes at c → (HasOpcode (drop at bytes) × (is_beyond reading_limits at (declared_length (drop at bytes)) ≡ true) → ⊥)
    → (tops ≡ [] → ⊥) × NamesCompression (cut_top bytes c) name → (others : List Top) × Halts reading_limits bytes others (compressed at name)
cut_packed bytes at c tables tops name was is near (some, names) =
    let front = cut_begun bytes at c is in (
      tops,
      halted bytes tops (drop at bytes) (compressed at name) was.stands was.good was.unended
          (subst (λ (n : ℕ). HaltsThere reading_limits tops (drop at bytes) (compressed n name)) (sym was.place)
          (packed_chunk name (cut_due bytes at c tops is was.place near) front.whole (some, subst (λ (x : Top). NamesCompression x name) (sym front.first) names))),
    )

pub cut_taken : (bytes : List ℕ) (at : ℕ) (c : Cut) (tables new : Tables) (tops : List Top) → ReadTo bytes at tables tops → IsCut bytes at c → (HasOpcode (drop at bytes) × (is_beyond reading_limits at (declared_length (drop at bytes)) ≡ true) → ⊥)
    → KeepsRules tops (cut_top bytes c) × TablesOf (flat (tops ++ cut_top bytes c ∷ [])) new → TakesRecord bytes at tops new c
cut_taken bytes at c tables new tops was is near (keeps, are) =
    let front = cut_begun bytes at c is in
    let due = cut_due bytes at c tops is was.place near in
    let stands = is.stands in
    let begins = stands.begins in
    let ends = stands.ends in
    let head = stands.head in
    record {
      fits = record {
        v3 = keeps.v3;
        v5 = keeps.v5;
        v6 = keeps.v6;
        v7 = keeps.v7;
        v8 = keeps.v8;
        v10 = keeps.v10;
        plain = keeps.plain;
        within = subst (λ (n : ℕ). is_beyond reading_limits (offset_behind tops) n ≡ false) front.len_is due.within;
        unended = was.unended;
      };
      split = stands.framed_there;
      begins = begins;
      ends = ends;
      behind = omega (arith, begins, ends, head, length-top (cut_top bytes c), length-take (c.to - c.from) (drop c.from bytes), length-drop c.from bytes);
      tables_are = are;
    }

-- ---- a record more

pub spelled_more : (tops : List Top) (t : Top) → spelled (tops ++ t ∷ []) ≡ spelled tops ++ top_bytes t
spelled_more tops t = flat_map-append top_bytes tops (t ∷ []) ∙ ap (λ (l : List ℕ). spelled tops ++ l) (append-nil (top_bytes t))

pub ended_front : (xs ys : List Top) → HasDataEnd xs → HasDataEnd (xs ++ ys)
ended_front [] ys ended = absurd ended
ended_front (x ∷ xs) ys (inl here) = inl here
ended_front (x ∷ xs) ys (inr more) = inr (ended_front xs ys more)

pub ended_more : (tops : List Top) (t : Top) → t.op ≡ 15 → HasDataEnd (tops ++ t ∷ [])
ended_more [] t is = inl is
ended_more (x ∷ xs) t is = inr (ended_more xs t is)

pub unended_more : (tops : List Top) (t : Top) → (HasDataEnd tops → ⊥) → (t.op ≡ 15 → ⊥) → HasDataEnd (tops ++ t ∷ []) → ⊥
unended_more [] t none other (inl is) = other is
unended_more [] t none other (inr more) = more
unended_more (x ∷ xs) t none other (inl is) = none (inl is)
unended_more (x ∷ xs) t none other (inr more) = unended_more xs t (λ e. none (inr e)) other more

-- what is read with the record that was taken
pub record IsMore (bytes : List ℕ) (tops : List Top) (c : Cut) : Type 0 where
  pub stands : Tops bytes (tops ++ cut_top bytes c ∷ []) (drop c.to bytes)
  pub good : Good reading_limits (tops ++ cut_top bytes c ∷ [])
  pub place : c.to ≡ offset_behind (tops ++ cut_top bytes c ∷ [])

pub more_read : (bytes : List ℕ) (at : ℕ) (c : Cut) (tables new : Tables) (tops : List Top) → ReadTo bytes at tables tops → TakesRecord bytes at tops new c → IsMore bytes tops c
more_read bytes at c tables new tops was takes =
    let t = cut_top bytes c in
    record {
      stands = next_stands bytes tops t (drop at bytes) (drop c.to bytes) was.stands takes.split;
      good = each_more (Fits reading_limits) tops t was.good takes.fits;
      place =
          let size : length (spelled (tops ++ t ∷ [])) ≡ length (spelled tops) + length (top_bytes t) = ap length (spelled_more tops t) ∙ length-append (spelled tops) (top_bytes t) in
          let behind = takes.behind in
          let place = was.place in
          omega (arith, size, behind, place);
    }

pub go_on : (bytes : List ℕ) (at : ℕ) (c : Cut) (tables new : Tables) (tops : List Top) → ReadTo bytes at tables tops → TakesRecord bytes at tops new c → (c.op ≡ 15 → ⊥) → ReadTo bytes c.to new (tops ++ cut_top bytes c ∷ [])
go_on bytes at c tables new tops was takes other =
    let more = more_read bytes at c tables new tops was takes in
    record {
      place = more.place;
      stands = more.stands;
      good = more.good;
      unended = unended_more tops (cut_top bytes c) was.unended other;
      tables_are = takes.tables_are;
    }

-- nothing is read yet
pub fresh : (bytes : List ℕ) (tables : Tables) → V1 bytes → TablesOf [] tables → ReadTo bytes 8 tables []
fresh bytes tables (rest, split) are = record {
  place = refl;
  stands = record { split = split ∙ ap (λ (l : List ℕ). magic ++ l) (sym (ap (drop 8) split)) };
  good = none_good;
  unended = λ none. none;
  tables_are = are;
}
