-- Messages that are put after what they need.
use Rattle.std.proofs.Common.{◌≡◌, ℕ, Bool, true, false, List, [], ◌∷◌, ◌++◌, Option, Some, None, refl, sym, ap, subst, ◌∙◌, inl, inr, append-nil, append_assoc, cond}
use Rattle.std.specs.Prelude.{fold, filter, find, eqb, nat_le, ◌==◌, ◌||◌, if◌then◌else◌}
use Rattle.std.specs.List.{AllZip, flat_map, list_any}
use Rattle.std.specs.Option.{option_to_list}
use Rattle.std.proofs.lemmas.Bool.{eqb-true, eq-eqb, le-leb}
use Rattle.std.proofs.lemmas.List.Sums.{fold-append}
use Rattle.rec_data.specs.declared.owned.Rec.{Rec}
use Rattle.rec_data.specs.declared.owned.Rec.TheVariants.{Schema, Channel, Message, Extra}
use Rattle.rec_data.specs.Fields.{MessageFields}
use Rattle.rec_data.specs.Records.{ShowsSchema, ShowsChannel, ShowsMessage}
use Rattle.rec_data.proofs.OwnedReading.{shown_once}
use Rattle.mcap_io.specs.Outside.{LiveState}
use Rattle.mcap_model.specs.declared.options.FileOptions.{FileOptions}
use Rattle.mcap_model.specs.declared.ends.Stop.{Stop}
use Rattle.mcap_model.specs.declared.table.Declared.{Declared}
use Rattle.mcap_model.specs.declared.tables.Tables.{Tables}
use Rattle.mcap_model.specs.Declarations.{FindsFirst}
use Rattle.mcap_model.specs.Places.{At}
use Rattle.mcap_model.specs.Tops.{Top}
use Rattle.mcap_model.specs.Fields.{SchemaFields, ChannelFields}
use Rattle.mcap_model.specs.Made.{top}
use Rattle.mcap_model.specs.ReadBack.{IsExtraKind, IsExtra}
use Rattle.mcap_model.specs.Repaired.{is_extra}
use Rattle.mcap_model.specs.History.{kept_with, schema_of, channel_of, message_of}
use Rattle.mcap_model.specs.Written.{IsRec}
use Rattle.mcap_model.proofs.Repairs.{kept_new, fold_more, fold_grows}
use Rattle.chunk_writer.specs.declared.phase.Phase.TheVariants as phases
use Rattle.chunk_writer.specs.Scribes.{GathersExtra, phase_of}
use Rattle.chunk_writer.proofs.Taking.{stopped_on}
use Rattle.mcap_merge.specs.declared.input.Extra.{Extra as HeldExtra}
use Rattle.mcap_merge.specs.Inputs.{extra_top}
use Rattle.record_keeping.specs.declared.keeping.Keeping.{Keeping}
use Rattle.record_keeping.specs.Keeping.{KeepingStandsFor, AddsRecords, AddsFlatRecords}
use Rattle.record_keeping.proofs.Keepings.{going_apart, message_known, stopped_more, adds_none}
use Rattle.mcap_model.specs.Needed.{is_schema_of, is_channel_of, schema_with, channel_with, schema_for, needs_on, needs_of, needed_behind, with_needs}
use Rattle.mcap_sort.specs.Declaring.{TableFinds, Finds}
use Rattle.mcap_sort.specs.Putting.{PutsSchema, PutsNeeds, PutsRecords, PutsMessage}

-- ---- lists that grow

-- what is written of more messages begins with what is written of these
pub needed_grows : (history out rs : List Rec) → (more : List Rec) × (fold (needed_behind history) out rs ≡ out ++ more)
needed_grows history out [] = ([], sym (append-nil out))
needed_grows history out (r ∷ rs) =
    let (some, is) = fold_grows out (needs_of history r) in
    let (more, grown) = needed_grows history (needed_behind history out r) rs in (
      some ++ (r ∷ more),
      grown ∙ ap (λ (l : List Rec). (l ++ r ∷ []) ++ more) (sym is) ∙ append_assoc (out ++ some) (r ∷ []) more ∙ append_assoc out some (r ∷ more),
    )

-- ---- keepings

-- one that stopped stands for whatever more, and whatever extras
pub stopped_any : {L : Type 0} (seen : L → LiveState) (options : FileOptions) (extras others : List Top) (opened : LiveState) (out more : List Rec) (k : Keeping L) (stop : Stop) → phase_of k.scribe ≡ phases.Stopped stop
    → KeepingStandsFor seen options extras opened out k → KeepingStandsFor seen options others opened (out ++ more) k
stopped_any seen options extras others opened out more k stop stopped keeps = record {
  writes = (
    stopped_on options opened.held (seen k.scribe.store).held out more k.scribe.plan stop stopped keeps.writes.0,
    λ going. absurd (going_apart (phase_of k.scribe) stop stopped going),
    λ going. absurd (going_apart (phase_of k.scribe) stop stopped going),
  );
  counts = λ going. absurd (going_apart (phase_of k.scribe) stop stopped going);
}

-- a keeping was stopped for want of memory, and stands for the same
pub lacks_same : {L : Type 0} (seen : L → LiveState) (options : FileOptions) (extras others : List Top) (opened : LiveState) (out more : List Rec) (old new : Keeping L) (stop : Stop)
    → ((t : Top) → GathersExtra seen old.scribe new.scribe t) → phase_of new.scribe ≡ phases.Stopped stop → KeepingStandsFor seen options extras opened out old → KeepingStandsFor seen options others opened (out ++ more) new
lacks_same seen options extras others opened out more old new stop gathers stopped keeps =
    let t : Top = top 9 [] in
    let w = gathers t options extras opened out keeps.writes in
    stopped_any seen options (extras ++ t ∷ []) others opened out more new stop stopped (record { writes = w; counts = λ going. absurd (going_apart (phase_of new.scribe) stop stopped going) })

pub adds_more : {L : Type 0} (seen : L → LiveState) (a b c : Keeping L) (rs ss : List Rec) → AddsRecords seen a b [] rs → AddsRecords seen b c [] ss → AddsRecords seen a c [] (rs ++ ss)
adds_more seen a b c rs ss one two options extras opened out keeps =
    let first = one options extras opened out keeps in
    let second = two options (extras ++ []) opened (fold kept_with out rs) first in
    subst (λ (l : List Rec). KeepingStandsFor seen options (extras ++ []) opened l c) (sym (fold_more out rs ss))
    (subst (λ (l : List Top). KeepingStandsFor seen options l opened (fold kept_with (fold kept_with out rs) ss) c) (append-nil (extras ++ [])) second)

pub adds_stopped : {L : Type 0} (seen : L → LiveState) (a b : Keeping L) (rs ss : List Rec) (stop : Stop) → phase_of b.scribe ≡ phases.Stopped stop → AddsRecords seen a b [] rs → AddsRecords seen a b [] (rs ++ ss)
adds_stopped seen a b rs ss stop stopped one options extras opened out keeps =
    subst (λ (l : List Rec). KeepingStandsFor seen options (extras ++ []) opened l b) (sym (fold_more out rs ss))
    (stopped_more seen options (extras ++ []) opened (fold kept_with out rs) ss b stop stopped (one options extras opened out keeps))

-- ---- what is found

-- the content of a table's entry shows a record that the history declares first
pub declared_is : (op : ℕ) (declares : ℕ → Rec → Bool) (table : List Declared) (history : List Rec) (id : ℕ) (content : List ℕ) → TableFinds op declares table history → (k : ℕ) × (d : Declared) × At table k d × (d.id ≡ id) × (d.content ≡ content)
    → (r : Rec) × (find (declares id) history ≡ Some r) × IsRec (top op content) r
declared_is op declares table history id content finds (k, d, at, ids, same) =
    let are = finds.are in
    let (r, found, is) = are k d at in
    (r, subst (λ (n : ℕ). find (declares n) history ≡ Some r) ids found, subst (λ (l : List ℕ). IsRec (top op l) r) same is)

none_with : (b : Bool) (o : Option Rec) → o ≡ None → (if b then [] else option_to_list o) ≡ []
none_with true o is = refl
none_with false o is = ap option_to_list is

-- a Channel has no schema
pub schema_zero : {L : Type 0} (seen : L → LiveState) (k : Keeping L) (table : List Declared) (id : ℕ) → id ≡ 0 → PutsSchema seen k k table id
schema_zero seen k table id zero_is history finds =
    subst (λ (l : List Rec). AddsRecords seen k k [] l) (sym (ap (λ (b : Bool). if b then [] else option_to_list (find (is_schema_of id) history)) (eq-eqb id 0 zero_is))) (adds_none seen k)

-- it isn't declared
pub schema_missing : {L : Type 0} (seen : L → LiveState) (k : Keeping L) (table : List Declared) (id : ℕ) → ((n : ℕ) (d : Declared) → At table n d → d.id ≡ id → ⊥) → PutsSchema seen k k table id
schema_missing seen k table id lacks history finds =
    let none = finds.none in
    subst (λ (l : List Rec). AddsRecords seen k k [] l) (sym (none_with (eqb id 0) (find (is_schema_of id) history) (none id lacks))) (adds_none seen k)

not_zero : (id : ℕ) → (id ≡ 0 → ⊥) → eqb id 0 ≡ false
not_zero id some = by (eqb id 0) refl
  where
    by : (b : Bool) → eqb id 0 ≡ b → b ≡ false
    by true is = absurd (some (eqb-true id 0 is))
    by false is = refl

-- it was put
pub schema_put : {L : Type 0} (seen : L → LiveState) (old new : Keeping L) (table : List Declared) (id : ℕ) (content : List ℕ) (n : ℕ) (f : SchemaFields) → (id ≡ 0 → ⊥) → (k : ℕ) × (d : Declared) × At table k d × (d.id ≡ id) × (d.content ≡ content) → ShowsSchema content n f
    → AddsFlatRecords seen old new (top 3 content ∷ []) → PutsSchema seen old new table id
schema_put seen old new table id content n f some there shown adds history finds =
    let (r, found, is) = declared_is 3 is_schema_of table history id content finds there in
    let found_one : schema_with history id ≡ r ∷ [] = ap (λ (b : Bool). if b then [] else option_to_list (find (is_schema_of id) history)) (not_zero id some) ∙ ap option_to_list found in
    subst (λ (l : List Rec). AddsRecords seen old new [] l) (sym found_one) (adds (r ∷ []) (is, tt))

-- ---- needs

-- the channel isn't declared
pub needs_missing : {L : Type 0} (seen : L → LiveState) (k : Keeping L) (tables : Tables) (id : ℕ) → ((n : ℕ) (d : Declared) → At tables.channels n d → d.id ≡ id → ⊥) → PutsNeeds seen k k tables id
needs_missing seen k tables id lacks history finds =
    let none = finds.channels.none in
    subst (λ (l : List Rec). AddsRecords seen k k [] l) (sym (ap (λ (o : Option Rec). flat_map (schema_for history) (option_to_list o) ++ option_to_list o) (none id lacks))) (adds_none seen k)

-- what a channel needs, and it
needs_found : (history : List Rec) (id n : ℕ) (f : ChannelFields) → find (is_channel_of id) history ≡ Some (channel_of n f) → needs_on history id ≡ schema_with history f.schema ++ channel_of n f ∷ []
needs_found history id n f found =
    ap (λ (o : Option Rec). flat_map (schema_for history) (option_to_list o) ++ option_to_list o) found
    ∙ ap (λ (l : List Rec). l ++ channel_of n f ∷ []) (append-nil (schema_with history f.schema))

found_is : (tables : Tables) (history : List Rec) (id : ℕ) (content : List ℕ) (n : ℕ) (f : ChannelFields) → Finds tables history → (k : ℕ) × (d : Declared) × At tables.channels k d × (d.id ≡ id) × (d.content ≡ content) → ShowsChannel content n f
    → find (is_channel_of id) history ≡ Some (channel_of n f)
found_is tables history id content n f finds there shown =
    let (r, found, is) = declared_is 4 is_channel_of tables.channels history id content finds.channels there in
    found ∙ ap (λ (x : Rec). Some x) (shown_once 4 content r (channel_of n f) is (refl, shown))

-- a content that shows no Schema is in no table
pub schema_absurd : {L : Type 0} (seen : L → LiveState) (old new : Keeping L) (table : List Declared) (id : ℕ) (content : List ℕ) → (k : ℕ) × (d : Declared) × At table k d × (d.id ≡ id) × (d.content ≡ content) → ((r : Rec) → IsRec (top 3 content) r → ⊥) → PutsSchema seen old new table id
schema_absurd seen old new table id content there none history finds =
    let (r, found, is) = declared_is 3 is_schema_of table history id content finds there in
    absurd (none r is)

pub needs_put : {L : Type 0} (seen : L → LiveState) (old mid new : Keeping L) (tables : Tables) (id : ℕ) (content : List ℕ) (n : ℕ) (f : ChannelFields) → (k : ℕ) × (d : Declared) × At tables.channels k d × (d.id ≡ id) × (d.content ≡ content) → ShowsChannel content n f
    → PutsSchema seen old mid tables.schemas f.schema → AddsFlatRecords seen mid new (top 4 content ∷ []) → PutsNeeds seen old new tables id
needs_put seen old mid new tables id content n f there shown schema channel history finds =
    let is = needs_found history id n f (found_is tables history id content n f finds there shown) in
    subst (λ (l : List Rec). AddsRecords seen old new [] l) (sym is)
    (adds_more seen old mid new (schema_with history f.schema) (channel_of n f ∷ []) (schema history finds.schemas) (channel (channel_of n f ∷ []) ((refl, shown), tt)))

-- it stopped at the schema
pub needs_stopped : {L : Type 0} (seen : L → LiveState) (old mid : Keeping L) (tables : Tables) (id : ℕ) (content : List ℕ) (n : ℕ) (f : ChannelFields) (stop : Stop) → (k : ℕ) × (d : Declared) × At tables.channels k d × (d.id ≡ id) × (d.content ≡ content) → ShowsChannel content n f
    → phase_of mid.scribe ≡ phases.Stopped stop → PutsSchema seen old mid tables.schemas f.schema → PutsNeeds seen old mid tables id
needs_stopped seen old mid tables id content n f stop there shown stopped schema history finds =
    let is = needs_found history id n f (found_is tables history id content n f finds there shown) in
    subst (λ (l : List Rec). AddsRecords seen old mid [] l) (sym is)
    (adds_stopped seen old mid (schema_with history f.schema) (channel_of n f ∷ []) stop stopped (schema history finds.schemas))

-- ---- a message

-- without the extras that aren't there
kept_plain : {L : Type 0} (seen : L → LiveState) (options : FileOptions) (extras : List Top) (opened : LiveState) (out : List Rec) (k : Keeping L) → KeepingStandsFor seen options (extras ++ []) opened out k → KeepingStandsFor seen options extras opened out k
kept_plain seen options extras opened out k keeps = subst (λ (l : List Top). KeepingStandsFor seen options l opened out k) (append-nil extras) keeps

pub message_put : {L : Type 0} (seen : L → LiveState) (old mid new : Keeping L) (tables : Tables) (channel : ℕ) (content : List ℕ) → PutsNeeds seen old mid tables channel → AddsFlatRecords seen mid new (top 5 content ∷ []) → PutsMessage seen old new tables channel content
message_put seen old mid new tables channel content needs adds history finds m shown options extras opened out keeps =
    let r = message_of channel m in
    let first = kept_plain seen options extras opened (fold kept_with out (needs_on history channel)) mid (needs history finds options extras opened out keeps) in
    let second = kept_plain seen options extras opened (kept_with (fold kept_with out (needs_on history channel)) r) new (adds (r ∷ []) ((refl, shown), tt) options extras opened (fold kept_with out (needs_on history channel)) first) in
    subst (λ (l : List Rec). KeepingStandsFor seen options extras opened l new) (kept_new (fold kept_with out (needs_on history channel)) r (message_known channel m (fold kept_with out (needs_on history channel)))) second

-- it stopped before it
pub message_stopped : {L : Type 0} (seen : L → LiveState) (old mid : Keeping L) (tables : Tables) (channel : ℕ) (content : List ℕ) (stop : Stop) → phase_of mid.scribe ≡ phases.Stopped stop → PutsNeeds seen old mid tables channel → PutsMessage seen old mid tables channel content
message_stopped seen old mid tables channel content stop stopped needs history finds m shown options extras opened out keeps =
    let first = needs history finds options extras opened out keeps in
    stopped_any seen options (extras ++ []) extras opened (fold kept_with out (needs_on history channel)) (message_of channel m ∷ []) mid stop stopped first

pub message_lacks : {L : Type 0} (seen : L → LiveState) (old mid new : Keeping L) (tables : Tables) (channel : ℕ) (content : List ℕ) (stop : Stop) → ((t : Top) → GathersExtra seen mid.scribe new.scribe t) → phase_of new.scribe ≡ phases.Stopped stop → PutsNeeds seen old mid tables channel
    → PutsMessage seen old new tables channel content
message_lacks seen old mid new tables channel content stop gathers stopped needs history finds m shown options extras opened out keeps =
    let first = needs history finds options extras opened out keeps in
    lacks_same seen options (extras ++ []) extras opened (fold kept_with out (needs_on history channel)) (message_of channel m ∷ []) mid new stop gathers stopped first

-- ---- several messages

pub puts_none : {L : Type 0} (seen : L → LiveState) (k : Keeping L) (history : List Rec) → PutsRecords seen k k history []
puts_none seen k history options extras opened out keeps = keeps

pub puts_on : {L : Type 0} (seen : L → LiveState) (a b c : Keeping L) (history rs ss : List Rec) → PutsRecords seen a b history rs → PutsRecords seen b c history ss → PutsRecords seen a c history (rs ++ ss)
puts_on seen a b c history rs ss one two options extras opened out keeps =
    subst (λ (l : List Rec). KeepingStandsFor seen options extras opened l c) (sym (fold-append (needed_behind history) out rs ss))
    (two options extras opened (fold (needed_behind history) out rs) (one options extras opened out keeps))

pub puts_stopped : {L : Type 0} (seen : L → LiveState) (a b : Keeping L) (history rs ss : List Rec) (stop : Stop) → phase_of b.scribe ≡ phases.Stopped stop → PutsRecords seen a b history rs → PutsRecords seen a b history (rs ++ ss)
puts_stopped seen a b history rs ss stop stopped one options extras opened out keeps =
    let mid = fold (needed_behind history) out rs in
    let (more, is) = needed_grows history mid ss in
    subst (λ (l : List Rec). KeepingStandsFor seen options extras opened l b) (sym (fold-append (needed_behind history) out rs ss ∙ is))
    (stopped_any seen options extras extras opened mid more b stop stopped (one options extras opened out keeps))

-- it stopped for want of memory before more
pub puts_lack : {L : Type 0} (seen : L → LiveState) (a b c : Keeping L) (history rs ss : List Rec) (stop : Stop) → ((t : Top) → GathersExtra seen b.scribe c.scribe t) → phase_of c.scribe ≡ phases.Stopped stop → PutsRecords seen a b history rs → PutsRecords seen a c history (rs ++ ss)
puts_lack seen a b c history rs ss stop gathers stopped one options extras opened out keeps =
    let mid = fold (needed_behind history) out rs in
    let (more, is) = needed_grows history mid ss in
    subst (λ (l : List Rec). KeepingStandsFor seen options extras opened l c) (sym (fold-append (needed_behind history) out rs ss ∙ is))
    (lacks_same seen options extras extras opened mid more b c stop gathers stopped (one options extras opened out keeps))

-- ---- extras

-- what is kept of a record that meets an extra's layout is that extra
or_last : (a b : Bool) → b ≡ true → (a || b) ≡ true
or_last true b is = refl
or_last false b is = is

is_kind : (n : ℕ) → IsExtraKind n → ((n == 9) || ((n == 12) || nat_le 128 n)) ≡ true
is_kind n (inl nine) = ap (λ (b : Bool). b || ((n == 12) || nat_le 128 n)) (eq-eqb n 9 nine)
is_kind n (inr (inl twelve)) = or_last (n == 9) ((n == 12) || nat_le 128 n) (ap (λ (b : Bool). b || nat_le 128 n) (eq-eqb n 12 twelve))
is_kind n (inr (inr high)) = or_last (n == 9) ((n == 12) || nat_le 128 n) (or_last (n == 12) (nat_le 128 n) (le-leb 128 n high))

pub extra_kept : {L : Type 0} (seen : L → LiveState) (a b : Keeping L) (x : HeldExtra) (content : List ℕ) → content ≡ x.content → IsExtra (extra_top x) → AddsRecords seen a b (filter is_extra (top x.op content ∷ [])) [] → AddsRecords seen a b (extra_top x ∷ []) []
extra_kept seen a b x content same meets adds =
    let one : filter is_extra (top x.op content ∷ []) ≡ top x.op content ∷ [] = ap (λ (b : Bool). if b then top x.op content ∷ [] else []) (is_kind x.op meets.kind) in
    subst (λ (l : List ℕ). AddsRecords seen a b (top x.op l ∷ []) []) same (subst (λ (l : List Top). AddsRecords seen a b l []) one adds)

pub extras_on : {L : Type 0} (seen : L → LiveState) (a b c : Keeping L) (xs ys : List Top) → AddsRecords seen a b xs [] → AddsRecords seen b c ys [] → AddsRecords seen a c (xs ++ ys) []
extras_on seen a b c xs ys one two options extras opened out keeps =
    subst (λ (l : List Top). KeepingStandsFor seen options l opened out c) (append_assoc extras xs ys) (two options (extras ++ xs) opened out (one options extras opened out keeps))

pub extras_stop : {L : Type 0} (seen : L → LiveState) (a b : Keeping L) (xs ys : List Top) (stop : Stop) → phase_of b.scribe ≡ phases.Stopped stop → AddsRecords seen a b xs [] → AddsRecords seen a b (xs ++ ys) []
extras_stop seen a b xs ys stop stopped one options extras opened out keeps =
    subst (λ (l : List Rec). KeepingStandsFor seen options (extras ++ (xs ++ ys)) opened l b) (append-nil out)
    (stopped_any seen options (extras ++ xs) (extras ++ (xs ++ ys)) opened out [] b stop stopped (one options extras opened out keeps))
