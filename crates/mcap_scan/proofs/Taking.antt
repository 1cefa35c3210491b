-- The head and the content of the record at the front of what a source has left.
use Rattle.std.proofs.Common.{◌≡◌, ℕ, zero, suc, ◌+◌, ◌<◌, ◌≤◌, min, Bool, true, false, eqb, if◌then◌else◌, List, [], ◌∷◌, ◌++◌, length, get_or, take, drop, Option, Some, Err, refl, sym, ap, subst, inl, inr, ◌∙◌, append_assoc, arith}
use Rattle.std.specs.Prelude.{IsErrOf}
use Rattle.std.proofs.lemmas.List.{take-append-drop, drop_at, drop-drop, drop-take, take-take, length-take, length-append, get_or-take}
use Rattle.std.proofs.lemmas.Bool.{le-leb, lt-leb, eqb-true}
use Rattle.mcap_wire.specs.Layout.{le, number, magic}
use Rattle.mcap_wire.specs.Reading.{HeadAt, HasZeroOpcode}
use Rattle.mcap_wire.proofs.Fields.{number_bytes, number_there}
use Rattle.mcap_wire.proofs.Numbers.{length-le}
use Rattle.mcap_io.specs.declared.outside.OutsideRefused.{OutsideRefused}
use Rattle.mcap_io.specs.declared.outside.OutsideRefused.TheVariants as outside_refusals
use Rattle.mcap_io.specs.Outside.{SourceState}
use Rattle.mcap_io.specs.OutsideCalls.{StretchTaken, ReadCause}
use Rattle.mcap_model.specs.Tops.{Top, offset_behind, opcode, declared_length, has_head, is_whole, behind_first}
use Rattle.mcap_model.specs.Rules.{V1}
use Rattle.mcap_model.specs.Kept.{reading_limits, is_beyond, HasOpcode, grammar, beyond, HaltsThere, short_head, zero_opcode, past_limit, cut_short}
use Rattle.mcap_model.specs.declared.refusals.ReadingRefused.{ReadingRefused}
use Rattle.mcap_model.specs.declared.rules.Rule.{Rule}
use Rattle.mcap_model.specs.declared.rules.Rule.TheVariants as rules
use Rattle.mcap_scan.specs.Sources.{unread_behind}
use Rattle.mcap_scan.specs.Taking.{DueAny, Failure, RefusalCause, MagicRefused, TakesHead, HaltsAny, RecordRefused, TakesFrontRecord}

-- ---- what halts any reading that comes to an offset

-- a limit that is passed or kept at the offset is so behind the records before it
limit_behind : (at len : ℕ) (b : Bool) (tops : List Top) → at ≡ offset_behind tops → is_beyond reading_limits at len ≡ b → is_beyond reading_limits (offset_behind tops) len ≡ b
limit_behind at len b tops place is = subst (λ (n : ℕ). is_beyond reading_limits n len ≡ b) place is

-- there is no whole head
headless_there : (rest : List ℕ) (at : ℕ) → has_head rest ≡ false → HaltsAny rest at (grammar at rules.V4)
headless_there rest at short tops place = subst (λ (n : ℕ). HaltsThere reading_limits tops rest (grammar n rules.V4)) (sym place) (short_head short)

zero_there : (rest : List ℕ) (at : ℕ) → has_head rest ≡ true → opcode rest ≡ 0 → HaltsAny rest at (grammar at rules.V5)
zero_there rest at head zero_op tops place = subst (λ (n : ℕ). HaltsThere reading_limits tops rest (grammar n rules.V5)) (sym place) (zero_opcode head zero_op)

past_there : (rest : List ℕ) (at : ℕ) → HasOpcode rest → is_beyond reading_limits at (declared_length rest) ≡ true → HaltsAny rest at (beyond at)
past_there rest at head past tops place =
    subst (λ (n : ℕ). HaltsThere reading_limits tops rest (beyond n)) (sym place) (past_limit head (limit_behind at (declared_length rest) true tops place past))

cut_there : (rest : List ℕ) (at : ℕ) → HasOpcode rest → is_beyond reading_limits at (declared_length rest) ≡ false → is_whole rest ≡ false → HaltsAny rest at (grammar at rules.V4)
cut_there rest at head within cut tops place =
    subst (λ (n : ℕ). HaltsThere reading_limits tops rest (grammar n rules.V4)) (sym place) (cut_short (record { head = head; within = limit_behind at (declared_length rest) false tops place within }) cut)

-- ---- what stays unread behind a broken record

nothing_behind : (rest : List ℕ) (n : ℕ) → length rest ≤ n → drop n rest ≡ []
nothing_behind [] zero few = refl
nothing_behind [] (suc n) few = refl
nothing_behind (r ∷ rs) zero few = absurd (omega (arith, few))
nothing_behind (r ∷ rs) (suc n) few = nothing_behind rs n (omega (arith, few))

unread_short : (rest : List ℕ) (b : Bool) → length rest < 9 → (if b then drop 9 rest else behind_first rest) ≡ drop 9 rest
unread_short rest true few = refl
unread_short rest false few = nothing_behind rest (9 + declared_length rest) (omega (arith, few)) ∙ sym (nothing_behind rest 9 (omega (arith, few)))

unread_zero : (rest : List ℕ) → opcode rest ≡ 0 → (if eqb (opcode rest) 0 then drop 9 rest else behind_first rest) ≡ drop 9 rest
unread_zero rest is = ap (λ (n : ℕ). if eqb n 0 then drop 9 rest else behind_first rest) is

unread_other : (rest : List ℕ) (n : ℕ) → (n ≡ 0 → ⊥) → (if eqb n 0 then drop 9 rest else behind_first rest) ≡ behind_first rest
unread_other rest n other = by (eqb n 0) refl
  where
    by : (b : Bool) → eqb n 0 ≡ b → (if b then drop 9 rest else behind_first rest) ≡ behind_first rest
    by true is = absurd (other (eqb-true n 0 is))
    by false is = refl

-- a record of a valid opcode that breaks a rule is read whole
pub unread_broken : (rest : List ℕ) (at : ℕ) (rule : Rule) → (opcode rest ≡ 0 → ⊥) → unread_behind rest (grammar at rule) ≡ behind_first rest
unread_broken rest at rule other = unread_other rest (opcode rest) other

-- ---- heads

pub head_taken : (rest bytes : List ℕ) (left : Option (List ℕ)) (op len : ℕ) → bytes ≡ take 9 rest → left ≡ Some (drop 9 rest) → HeadAt bytes 0 op len → TakesHead rest left op len
head_taken [] bytes left op len is left_is head =
    let size : length bytes ≡ 0 = ap length is in
    absurd (omega (arith, head.len_there.field.ends, size))
head_taken (r ∷ rs) bytes left op len is left_is head =
    let long : length bytes ≡ min 9 (length (r ∷ rs)) = ap length is ∙ length-take 9 (r ∷ rs) in
    let enough : 9 ≤ length (r ∷ rs) = omega (arith, head.len_there.field.ends, long) in
    let first : get_or bytes 0 0 ≡ r = ap (λ (l : List ℕ). get_or l 0 0) is in
    let op_is : op ≡ r = head.opcode ∙ first in
    let behind : drop 1 bytes ≡ take 8 rs = ap (drop 1) is in
    let length_bytes : take 8 rs ≡ le 8 len =
    sym (take-take 8 8 rs (omega arith)) ∙ ap (take 8) (sym behind) ∙ number_bytes 8 bytes 1 len 9 head.len_there in
    let value : number (take 8 rs) ≡ len =
    ap number (sym (take-take 8 8 rs (omega arith)) ∙ ap (take 8) (sym behind)) ∙ number_there 8 bytes 1 len 9 head.len_there in
    record {
      begins = le-leb 9 (length (r ∷ rs)) enough;
      op_is = sym op_is;
      len_is = value;
      no_zero = head.valid;
      after = drop 8 rs;
      split = ap (λ (b : ℕ). b ∷ rs) (sym op_is) ∙ ap (λ (l : List ℕ). op ∷ l) (sym (take-append-drop 8 rs) ∙ ap (λ (l : List ℕ). l ++ drop 8 rs) length_bytes);
      left_after = left_is;
    }

-- why a head wasn't read
pub head_refused : (rest : List ℕ) (at : ℕ) (old new : SourceState) (got : List ℕ) (faults : ℕ) (why : OutsideRefused) (end : ReadingRefused) → old.left ≡ Some rest → StretchTaken old.left new.left 9 got (Err why) → (IsErrOf {T = Unit {0}} (Err why) outside_refusals.Memory → 9 ≤ 65536 → new ≡ old) → Failure faults why end → RecordRefused rest at new.left end
head_refused rest at old new got faults outside_refusals.Failed end told taken unread is =
    let lost = taken rest told in
    let size = length-take lost.0 rest in
    let few : length (take lost.0 rest) < 9 = omega (arith, lost.1) in
    subst (λ (e : ReadingRefused). RecordRefused rest at new.left e) (sym is) (lost.0, lost.2, headless_there (take lost.0 rest) at (lt-leb 9 (length (take lost.0 rest)) few))
head_refused rest at old new got faults outside_refusals.Memory end told taken unread is =
    subst (λ (e : ReadingRefused). RecordRefused rest at new.left e) (sym is) (inl (ap (λ (s : SourceState). s.left) (unread refl (omega arith)) ∙ told))

-- fewer than nine bytes
pub head_short : (rest bytes : List ℕ) (at : ℕ) (left : Option (List ℕ)) → bytes ≡ take 9 rest → left ≡ Some (drop 9 rest) → length bytes < 9 → HaltsAny rest at (grammar at rules.V4) × (left ≡ Some (unread_behind rest (grammar at rules.V4)))
head_short rest bytes at left is left_is short =
    let size : length bytes ≡ min 9 (length rest) = ap length is ∙ length-take 9 rest in
    let few : length rest < 9 = omega (arith, size, short) in
    (headless_there rest at (lt-leb 9 (length rest) few), left_is ∙ ap Some (sym (unread_short rest (eqb (opcode rest) 0) few)))

-- nine bytes of opcode 0
pub head_zero : (rest bytes : List ℕ) (at : ℕ) (left : Option (List ℕ)) → bytes ≡ take 9 rest → left ≡ Some (drop 9 rest) → HasZeroOpcode bytes 0 → HaltsAny rest at (grammar at rules.V5) × (left ≡ Some (unread_behind rest (grammar at rules.V5)))
head_zero rest bytes at left is left_is zero_op =
    let size : length bytes ≡ min 9 (length rest) = ap length is ∙ length-take 9 rest in
    let enough : 9 ≤ length rest = omega (arith, size, zero_op.0) in
    let first : get_or bytes 0 0 ≡ get_or rest 0 0 = ap (λ (l : List ℕ). get_or l 0 0) is ∙ get_or-take 9 rest 0 0 (omega arith) in
    let none : opcode rest ≡ 0 = sym first ∙ zero_op.1 in
    (zero_there rest at (le-leb 9 (length rest) enough) none, left_is ∙ ap Some (sym (unread_zero rest none)))

-- ---- a record that is due

valid_there : (rest : List ℕ) (left : Option (List ℕ)) (op len : ℕ) → TakesHead rest left op len → opcode rest ≡ 0 → ⊥
valid_there rest left op len head e = let valid = head.no_zero in valid (sym head.op_is ∙ e)

opcode_there : (rest : List ℕ) (left : Option (List ℕ)) (op len : ℕ) → TakesHead rest left op len → HasOpcode rest
opcode_there rest left op len head = (head.begins, valid_there rest left op len head)

-- what is behind the head, and behind the record
behind_head : (rest : List ℕ) (left : Option (List ℕ)) (op len : ℕ) (head : TakesHead rest left op len) → drop 9 rest ≡ head.after
behind_head rest left op len head = ap (drop 9) head.split ∙ drop_at (le 8 len) head.after 8 (length-le 8 len)

behind_record : (rest : List ℕ) (left : Option (List ℕ)) (op len : ℕ) (head : TakesHead rest left op len) → behind_first rest ≡ drop len head.after
behind_record rest left op len head =
    ap (λ (n : ℕ). drop (9 + n) rest) head.len_is ∙ sym (drop-drop len 9 rest) ∙ ap (drop len) (behind_head rest left op len head)

-- the head alone was read
head_only : (rest : List ℕ) (left : Option (List ℕ)) (op len : ℕ) → TakesHead rest left op len → left ≡ Some (drop 9 rest)
head_only rest left op len head = head.left_after ∙ ap Some (sym (behind_head rest left op len head))

pub beyond_there : (rest : List ℕ) (left : Option (List ℕ)) (at op len : ℕ) → TakesHead rest left op len → is_beyond reading_limits at len ≡ true → HaltsAny rest at (beyond at) × (left ≡ Some (unread_behind rest (beyond at)))
beyond_there rest left at op len head past = (past_there rest at (opcode_there rest left op len head) (ap (is_beyond reading_limits at) head.len_is ∙ past), head_only rest left op len head)

-- the content that was read is shorter than what was declared: it isn't all there
pub content_short : (rest content : List ℕ) (left left_after : Option (List ℕ)) (at op len : ℕ) (head : TakesHead rest left op len) → is_beyond reading_limits at len ≡ false → content ≡ take len head.after → left_after ≡ Some (drop len head.after) → length content < len → HaltsAny rest at (grammar at rules.V4) × (left_after ≡ Some (unread_behind rest (grammar at rules.V4)))
content_short rest content left left_after at op len head within is left_is short =
    let size : length content ≡ min len (length head.after) = ap length is ∙ length-take len head.after in
    let whole : length rest ≡ suc (length (le 8 len ++ head.after)) = ap length head.split in
    let parts = length-append (le 8 len) head.after in
    let len_is = head.len_is in
    let eight = length-le 8 len in (
      cut_there rest at (opcode_there rest left op len head) (ap (is_beyond reading_limits at) len_is ∙ within) (lt-leb (9 + declared_length rest) (length rest) (omega arith)),
      left_is ∙ ap Some (sym (unread_broken rest at rules.V4 (valid_there rest left op len head) ∙ behind_record rest left op len head)),
    )

-- ---- a source that failed, or memory that lacked

-- a first part has the length that the whole declares
declared_front : (k : ℕ) (rest : List ℕ) → 8 ≤ k → declared_length (take (1 + k) rest) ≡ declared_length rest
declared_front k rest enough =
    ap (λ (l : List ℕ). number (take 8 l)) (drop-take 1 k rest) ∙ ap number (take-take 8 k (drop 1 rest) enough)

declares_there : (rest : List ℕ) (n len : ℕ) → declared_length rest ≡ len → declared_length (take (9 + n) rest) ≡ len
declares_there rest n len len_is =
    let more : 9 + n ≡ 1 + (8 + n) = omega arith in
    ap (λ (k : ℕ). declared_length (take k rest)) more ∙ declared_front (8 + n) rest (omega arith) ∙ len_is

-- the head was given, and less than the content
few_behind : (rest : List ℕ) (n len : ℕ) → declared_length rest ≡ len → n < len → is_whole (take (9 + n) rest) ≡ false
few_behind rest n len len_is few =
    let declares = declares_there rest n len len_is in
    let size = length-take (9 + n) rest in
    lt-leb (9 + declared_length (take (9 + n) rest)) (length (take (9 + n) rest)) (omega arith)

-- a first part with the whole head has its opcode
front_opcode : (rest : List ℕ) (left : Option (List ℕ)) (op len n : ℕ) → TakesHead rest left op len → HasOpcode (take (9 + n) rest)
front_opcode rest left op len n head =
    let part = take (9 + n) rest in
    let first : get_or part 0 0 ≡ get_or rest 0 0 = get_or-take (9 + n) rest 0 0 (omega arith) in
    let size : length part ≡ min (9 + n) (length rest) = length-take (9 + n) rest in
    let whole : length rest ≡ suc (length (le 8 len ++ head.after)) = ap length head.split in
    let parts = length-append (le 8 len) head.after in
    let eight = length-le 8 len in
    let enough : 9 ≤ length part = omega arith in
    (le-leb 9 (length part) enough, λ (e : get_or part 0 0 ≡ 0). valid_there rest left op len head (sym first ∙ e))

due_there : (rest : List ℕ) (left : Option (List ℕ)) (at op len : ℕ) → TakesHead rest left op len → is_beyond reading_limits at len ≡ false → DueAny rest at
due_there rest left at op len head within tops place = record {
  head = opcode_there rest left op len head;
  within = limit_behind at (declared_length rest) false tops place (ap (is_beyond reading_limits at) head.len_is ∙ within);
}

-- why a content wasn't read
-- a first part of the content was lost
content_lost : (rest : List ℕ) (old new : Option (List ℕ)) (op len : ℕ) (got : List ℕ) (why : OutsideRefused) → TakesHead rest old op len → StretchTaken old new len got (Err why) → (n : ℕ) × (n < len) × (new ≡ Some (drop (9 + n) rest))
content_lost rest old new op len got why head taken =
    let lost = taken head.after head.left_after in
    (lost.0, lost.1, lost.2 ∙ ap (λ (l : List ℕ). Some (drop lost.0 l)) (sym (behind_head rest old op len head)) ∙ ap Some (drop-drop lost.0 9 rest))

pub content_refused : (rest : List ℕ) (at : ℕ) (old new : Option (List ℕ)) (op len : ℕ) (got : List ℕ) (faults : ℕ) (why : OutsideRefused) (end : ReadingRefused) → TakesHead rest old op len → is_beyond reading_limits at len ≡ false → StretchTaken old new len got (Err why) → Failure faults why end → RecordRefused rest at new end
content_refused rest at old new op len got faults outside_refusals.Failed end head within taken is =
    let lost = content_lost rest old new op len got outside_refusals.Failed head taken in
    subst (λ (e : ReadingRefused). RecordRefused rest at new e) (sym is)
    (9 + lost.0, lost.2, cut_there (take (9 + lost.0) rest) at (front_opcode rest old op len lost.0 head) (ap (is_beyond reading_limits at) (declares_there rest lost.0 len head.len_is) ∙ within) (few_behind rest lost.0 len head.len_is lost.1))
content_refused rest at old new op len got faults outside_refusals.Memory end head within taken is =
    let lost = content_lost rest old new op len got outside_refusals.Memory head taken in
    let declared = head.len_is in
    subst (λ (e : ReadingRefused). RecordRefused rest at new e) (sym is) (inr (due_there rest old at op len head within, (lost.0, omega (arith, declared, lost.1), lost.2)))

-- ---- a whole record

pub record_taken : (rest content : List ℕ) (left left_after : Option (List ℕ)) (op len : ℕ) (head : TakesHead rest left op len) → content ≡ take len head.after → left_after ≡ Some (drop len head.after) → len ≤ length content → length content ≤ len → TakesFrontRecord rest left_after op content
record_taken rest content left left_after op len head is left_is enough few =
    let size : length content ≡ len = omega arith in
    let parts : head.after ≡ content ++ drop len head.after = sym (take-append-drop len head.after) ∙ ap (λ (l : List ℕ). l ++ drop len head.after) (sym is) in
    record {
      after = drop len head.after;
      split = head.split ∙ ap (λ (l : List ℕ). op ∷ (le 8 len ++ l)) parts ∙ ap (λ (l : List ℕ). op ∷ l) (sym (append_assoc (le 8 len) content (drop len head.after))) ∙ ap (λ (n : ℕ). op ∷ ((le 8 n ++ content) ++ drop len head.after)) (sym size);
      left_after = left_is;
    }

-- ---- the magic

pub magic_refused : (bytes : List ℕ) (old new : SourceState) (got : List ℕ) (faults : ℕ) (why : OutsideRefused) (end : ReadingRefused) → old.left ≡ Some bytes → StretchTaken old.left new.left 8 got (Err why) → (IsErrOf {T = Unit {0}} (Err why) outside_refusals.Memory → 8 ≤ 65536 → new ≡ old) → Failure faults why end → MagicRefused bytes new.left end
magic_refused bytes old new got faults outside_refusals.Failed end told taken unread is =
    let lost = taken bytes told in
    let size = length-take lost.0 bytes in
    let few : length (take lost.0 bytes) < 8 = omega (arith, lost.1) in
    subst (λ (e : ReadingRefused). MagicRefused bytes new.left e) (sym is) (lost.0, lost.2, few)
magic_refused bytes old new got faults outside_refusals.Memory end told taken unread is =
    subst (λ (e : ReadingRefused). MagicRefused bytes new.left e) (sym is) (ap (λ (s : SourceState). s.left) (unread refl (omega arith)) ∙ told)

pub magic_lacks : (bytes got : List ℕ) → got ≡ take 8 bytes → (got ≡ magic → ⊥) → V1 bytes → ⊥
magic_lacks bytes got is other (rest, split) = other (is ∙ ap (take 8) split)

pub magic_there : (bytes got : List ℕ) → got ≡ take 8 bytes → got ≡ magic → bytes ≡ magic ++ drop 8 bytes
magic_there bytes got is same = sym (take-append-drop 8 bytes) ∙ ap (λ (l : List ℕ). l ++ drop 8 bytes) (sym is ∙ same)

-- ---- counts of faults

pub failure_cause : (before now : ℕ) (why : OutsideRefused) (end : ReadingRefused) → ReadCause {T = Unit} before now (Err why) → Failure now why end → RefusalCause before now end
failure_cause before now outside_refusals.Failed end cause is = subst (RefusalCause before now) (sym is) (cause, refl)
failure_cause before now outside_refusals.Memory end cause is = subst (RefusalCause before now) (sym is) cause
