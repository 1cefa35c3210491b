-- Of what repairing makes of good records a file can be written.
use Rattle.std.proofs.Common.{◌≡◌, ℕ, zero, suc, ◌^◌, ◌<◌, Bool, true, false, List, [], ◌∷◌, ◌++◌, length, map, take, Option, refl, sym, ap, subst, inl, inr, ◌∙◌, arith}
use Rattle.std.specs.Prelude.{filter, IsUtf8, if◌then◌else◌, ◌==◌, ◌||◌, nat_le}
use Rattle.std.specs.List.{AllZip}
use Rattle.rec_data.specs.declared.owned.Rec.{Rec}
use Rattle.rec_data.specs.declared.owned.Rec.TheVariants.{Schema, Channel, Message, Extra}
use Rattle.rec_data.proofs.OwnedReading.{rec_shown, shown_once}
use Rattle.mcap_model.specs.Places.{At, Each, EachBehind}
use Rattle.mcap_model.specs.Tops.{Top, is_flat_kind, unchunked, flattened, flat}
use Rattle.mcap_model.proofs.Lists.{each_joined, filter_passed}
use Rattle.mcap_model.specs.Fields.{SchemaFields, ChannelFields, MessageFields, IsSchema, IsChannel, IsMessage}
use Rattle.mcap_model.specs.Rules.{V6, Agrees}
use Rattle.mcap_model.specs.Kept.{Good, reading_limits}
use Rattle.mcap_model.specs.History.{rec_top, schema_of, channel_of, message_of, is_inner, extras_in}
use Rattle.mcap_model.specs.Whole.{count_of}
use Rattle.mcap_model.proofs.Asides.{body_whole, no_extras}
use Rattle.std.proofs.lemmas.Bool.{both_ways, eqb-true, leb-true}
use Rattle.mcap_model.specs.Blocks.{blocks_in, pieces_of}
use Rattle.mcap_model.specs.Written.{IsRec}
use Rattle.mcap_model.specs.Histories.{IdsAgree}
use Rattle.mcap_model.specs.Repaired.{is_extra, ProfileIs}
use Rattle.mcap_model.specs.Laws.{IsNumberedRec, IsInner, EntriesFit}
use Rattle.mcap_model.specs.ReadBack.{IsReadBack, IsExtraKind, IsExtra}
use Rattle.mcap_model.specs.Recovery.{RepairsCanBeWritten}
use Rattle.mcap_laws.specs.Repairs.{RepairsKeepRules}
use Rattle.mcap_model.proofs.Places.{at_none}
use Rattle.mcap_model.proofs.ReadBack.{schema_back, channel_back, message_back}
use Rattle.mcap_model.proofs.Distinct.{rec_id, repeats_are}
use Rattle.mcap_model.proofs.Flat.{good_lists_agree}
use Rattle.mcap_model.proofs.Histories.{recs_are_flat, extra_not_flat}
use Rattle.mcap_model.proofs.WrittenChunks.{empty_utf8}
use Rattle.mcap_laws.proofs.Repeats.{repeats_may_go}
use Rattle.mcap_laws.proofs.Ranges.{small_blocks_fit}

-- ---- a record and the one of a file that shows it

read_back : (u : Top) (r : Rec) → IsRec u r → IsReadBack r
read_back u (Schema id s) is = rec_shown (Schema id s) is.1.1.fit
read_back u (Channel id s topic encoding metadata) is = rec_shown (Channel id s topic encoding metadata) is.1.1.fit
read_back u (Message c n l p d) is = rec_shown (Message c n l p d) is.1.fit
read_back u (Extra op content) is = rec_shown (Extra op content) is.2

schema_in : (u : Top) (r : Rec) (id : ℕ) (f : SchemaFields) → IsRec u r → IsSchema (rec_top r) id f → IsSchema u id f
schema_in u r id f is shown =
    let same : r ≡ schema_of id f = schema_back r id f (read_back u r is) shown in
    let there : IsRec u (schema_of id f) = subst (IsRec u) same is in
    record { kind = there.0; layout = there.1; some = shown.some }

schema_out : (u : Top) (r : Rec) (id : ℕ) (f : SchemaFields) → IsRec u r → IsSchema u id f → IsSchema (rec_top r) id f
schema_out u r id f is shown =
    let same : r ≡ schema_of id f = shown_once u.op u.content r (schema_of id f) is (shown.kind, shown.layout) in
    let back : IsReadBack (schema_of id f) = subst IsReadBack same (read_back u r is) in
    subst (λ (x : Rec). IsSchema (rec_top x) id f) (sym same) (record { kind = refl; layout = back.1; some = shown.some })

channel_in : (u : Top) (r : Rec) (id : ℕ) (f : ChannelFields) → IsRec u r → IsChannel (rec_top r) id f → IsChannel u id f
channel_in u r id f is shown =
    let same : r ≡ channel_of id f = channel_back r id f (read_back u r is) shown in
    let there : IsRec u (channel_of id f) = subst (IsRec u) same is in
    record { kind = there.0; layout = there.1 }

channel_out : (u : Top) (r : Rec) (id : ℕ) (f : ChannelFields) → IsRec u r → IsChannel u id f → IsChannel (rec_top r) id f
channel_out u r id f is shown =
    let same : r ≡ channel_of id f = shown_once u.op u.content r (channel_of id f) is (shown.kind, shown.layout) in
    let back : IsReadBack (channel_of id f) = subst IsReadBack same (read_back u r is) in
    subst (λ (x : Rec). IsChannel (rec_top x) id f) (sym same) (record { kind = refl; layout = back.1 })

message_in : (u : Top) (r : Rec) (channel : ℕ) (m : MessageFields) → IsRec u r → IsMessage (rec_top r) channel m → IsMessage u channel m
message_in u r channel m is shown =
    let same : r ≡ message_of channel m = message_back r channel m (read_back u r is) shown in
    let there : IsRec u (message_of channel m) = subst (IsRec u) same is in
    record { kind = there.0; layout = there.1 }

-- ---- lists

rec_at : (us : List Top) (rs : List Rec) (n : ℕ) (r : Rec) → AllZip IsRec us rs → At rs n r → (u : Top) × At us n u × IsRec u r
rec_at [] [] n r zip at = absurd (at_none n r at)
rec_at [] (x ∷ xs) n r zip at = absurd zip
rec_at (u ∷ us) [] n r zip at = absurd zip
rec_at (u ∷ us) (x ∷ xs) zero r zip at = let same : x ≡ r = cc in (u, refl, subst (IsRec u) same zip.0)
rec_at (u ∷ us) (x ∷ xs) (suc n) r zip at = rec_at us xs n r zip.1 at

top_at : (us : List Top) (rs : List Rec) (n : ℕ) (u : Top) → AllZip IsRec us rs → At us n u → (r : Rec) × At (map rec_top rs) n (rec_top r) × IsRec u r
top_at [] [] n u zip at = absurd (at_none n u at)
top_at [] (x ∷ xs) n u zip at = absurd zip
top_at (v ∷ us) [] n u zip at = absurd zip
top_at (v ∷ us) (x ∷ xs) zero u zip at = let same : v ≡ u = cc in (x, refl, subst (λ (t : Top). IsRec t x) same zip.0)
top_at (v ∷ us) (x ∷ xs) (suc n) u zip at = top_at us xs n u zip.1 at

mapped_at : (rs : List Rec) (n : ℕ) (t : Top) → At (map rec_top rs) n t → (r : Rec) × At rs n r × (rec_top r ≡ t)
mapped_at [] n t at = absurd (at_none n t at)
mapped_at (r ∷ rs) zero t at = let same : rec_top r ≡ t = cc in (r, refl, same)
mapped_at (r ∷ rs) (suc n) t at = mapped_at rs n t at

zip_take : (us : List Top) (rs : List Rec) (n : ℕ) → AllZip IsRec us rs → AllZip IsRec (take n us) (take n rs)
zip_take us rs zero zip = tt
zip_take [] [] (suc n) zip = tt
zip_take [] (x ∷ xs) (suc n) zip = absurd zip
zip_take (u ∷ us) [] (suc n) zip = absurd zip
zip_take (u ∷ us) (x ∷ xs) (suc n) zip = (zip.0, zip_take us xs n zip.1)

take_mapped : (rs : List Rec) (n : ℕ) → take n (map rec_top rs) ≡ map rec_top (take n rs)
take_mapped rs zero = refl
take_mapped [] (suc n) = refl
take_mapped (r ∷ rs) (suc n) = ap (λ (l : List Top). rec_top r ∷ l) (take_mapped rs n)

-- ---- the ids agree

agrees_on : (us : List Top) (rs : List Rec) (u : Top) (r : Rec) → AllZip IsRec us rs → IsRec u r → Agrees us u → Agrees (map rec_top rs) (rec_top r)
agrees_on us rs u r zip is agree = record {
  schemas = λ id f g n v one at other.
      let (x, there, same) = mapped_at rs n v at in
      let (w, stands, shows) = rec_at us rs n x zip there in
      agree.schemas id f g n w (schema_in u r id f is one) stands (schema_in w x id g shows (subst (λ (t : Top). IsSchema t id g) (sym same) other));
  channels = λ id f g n v one at other.
      let (x, there, same) = mapped_at rs n v at in
      let (w, stands, shows) = rec_at us rs n x zip there in
      agree.channels id f g n w (channel_in u r id f is one) stands (channel_in w x id g shows (subst (λ (t : Top). IsChannel t id g) (sym same) other));
  schema = λ id f one. elim (agree.schema id f (channel_in u r id f is one)) [
    | inl none ↦ inl none
    | inr has ↦ inr (let (x, stands, shows) = top_at us rs has.place has.top zip has.at in
        record { place = has.place; top = rec_top x; shown = has.shown; at = stands; is = schema_out has.top x f.schema has.shown shows has.is })
  ];
  channel = λ id m one.
      let has = agree.channel id m (message_in u r id m is one) in
      let (x, stands, shows) = top_at us rs has.place has.top zip has.at in
      record { place = has.place; top = rec_top x; shown = has.shown; at = stands; is = channel_out has.top x id has.shown shows has.is };
}

ids_on : (us : List Top) (rs : List Rec) → AllZip IsRec us rs → EachBehind Agrees us → EachBehind Agrees (map rec_top rs)
ids_on us rs zip agree n t at =
    let (r, there, same) = mapped_at rs n t at in
    let (u, stands, shows) = rec_at us rs n r zip there in
    subst (λ (l : List Top). Agrees l t) (sym (take_mapped rs n))
    (subst (λ (x : Top). Agrees (map rec_top (take n rs)) x) same (agrees_on (take n us) (take n rs) u r (zip_take us rs n zip) shows (agree n u stands)))

numbered_on : (us : List Top) (rs : List Rec) → AllZip IsRec us rs → Each V6 us → Each IsNumberedRec rs
numbered_on us rs zip meets n r at id f same none =
    let (u, stands, shows) = rec_at us rs n r zip at in
    let there : IsRec u (schema_of id f) = subst (IsRec u) same shows in
    let (own, g, is) = (meets n u stands).schema there.0 in
    let ids : id ≡ own = ap rec_id (shown_once u.op u.content (schema_of id f) (schema_of own g) there (is.kind, is.layout)) in
    is.some (sym ids ∙ none)

-- ---- the extras

filtered_at : (us : List Top) (n : ℕ) (u : Top) → At (filter is_extra us) n u → (m : ℕ) × At us m u × (is_extra u ≡ true)
filtered_at [] n u at = absurd (at_none n u at)
filtered_at (x ∷ xs) n u at = by (is_extra x) refl n at (filtered_at xs)
  where
    by : (b : Bool) → is_extra x ≡ b → (k : ℕ) → At (if b then x ∷ filter is_extra xs else filter is_extra xs) k u → ((j : ℕ) (v : Top) → At (filter is_extra xs) j v → (m : ℕ) × At xs m v × (is_extra v ≡ true))
        → (m : ℕ) × At (x ∷ xs) m u × (is_extra u ≡ true)
    by true is zero there rest = let same : x ≡ u = cc in (zero, there, subst (λ (t : Top). is_extra t ≡ true) same is)
    by true is (suc k) there rest = let (m, later, passes) = rest k u there in (suc m, later, passes)
    by false is k there rest = let (m, later, passes) = rest k u there in (suc m, later, passes)

kind_of : (n : ℕ) → ((n == 9) || ((n == 12) || nat_le 128 n)) ≡ true → IsExtraKind n
kind_of n is = by (n == 9) (n == 12) (nat_le 128 n) refl refl refl is
  where
    by : (a b c : Bool) → (n == 9) ≡ a → (n == 12) ≡ b → nat_le 128 n ≡ c → (a || (b || c)) ≡ true → IsExtraKind n
    by true b c nine twelve high any = inl (eqb-true n 9 nine)
    by false true c nine twelve high any = inr (inl (eqb-true n 12 twelve))
    by false false true nine twelve high any = inr (inr (leb-true 128 n high))
    by false false false nine twelve high any = absurd (both_ways false refl any)

-- ---- what is flat is no extra

flat_kinds : (tops : List Top) → Each (λ u. is_flat_kind u ≡ true) (flat tops)
flat_kinds [] = λ n u at. absurd (at_none n u at)
flat_kinds (t ∷ ts) = each_joined (λ u. is_flat_kind u ≡ true) (flattened t) (flat ts) (λ n u at. (filter_passed is_flat_kind (unchunked t) n u at).1) (flat_kinds ts)

inner_of : (u : Top) (r : Rec) → is_flat_kind u ≡ true → IsRec u r → is_inner r ≡ true
inner_of u (Schema id s) kind is = refl
inner_of u (Channel id s topic encoding metadata) kind is = refl
inner_of u (Message c n l p d) kind is = refl
inner_of u (Extra op content) kind is =
    let same : is_flat_kind u ≡ is_flat_kind (record { op = op; content = content }) = ap (λ (k : ℕ). is_flat_kind (record { op = k; content = content })) is.0 in
    absurd (both_ways (is_flat_kind u) (same ∙ extra_not_flat op content is.2) kind)

extras_meet : (tops : List Top) → Good reading_limits tops → Each IsExtra (filter is_extra tops)
extras_meet tops good n t at =
    let (m, there, passes) = filtered_at tops n t at in
    let fits = good m t there in
    record { kind = kind_of t.op passes; v6 = fits.v6; v10 = fits.v10 }

-- ---- the profile

profile_there : (tops : List Top) (profile : List ℕ) → Good reading_limits tops → ProfileIs tops profile → IsUtf8 profile × (length profile < 2 ^ 32)
profile_there [] profile good is = (subst IsUtf8 (sym is) empty_utf8, (let size = ap (λ (l : List ℕ). length l) is in omega (arith, size)))
profile_there (t ∷ ts) profile good (header, same) =
    let fit = header.layout.1.fit in
    (subst IsUtf8 same fit.0.1, (let size = ap (λ (l : List ℕ). length l) same in let few = fit.0.0 in omega (arith, size, few)))

pub repairs_keep_rules : RepairsKeepRules
repairs_keep_rules tops extras profile history good repairs =
    let (meets, agree) = good_lists_agree reading_limits tops good in
    let back : Each IsReadBack repairs.flattened = λ n r at. let (u, stands, shows) = rec_at (flat tops) repairs.flattened n r repairs.are_flattened at in read_back u r shows in
    let numbered = numbered_on (flat tops) repairs.flattened repairs.are_flattened meets in
    let inner : Each IsInner repairs.flattened = λ n r at. let (u, stands, shows) = rec_at (flat tops) repairs.flattened n r repairs.are_flattened at in inner_of u r (flat_kinds tops n u stands) shows in
    let ids : IdsAgree repairs.flattened = subst (EachBehind Agrees) (sym (recs_are_flat repairs.flattened back ∙ ap (map rec_top) (body_whole repairs.flattened inner))) (ids_on (flat tops) repairs.flattened repairs.are_flattened agree) in
    let (ids_kept, back_kept, numbered_kept) = repeats_may_go repairs.flattened back numbered inner ids in
    let none : extras_in history ≡ [] = no_extras history (λ n r at. let has = repeats_are repairs.flattened r (n, subst (λ (l : List Rec). At l n r) repairs.history_is at) in inner has.0 r has.1) in
    let (utf8, fits) = profile_there tops profile good repairs.profile_is in
    record {
      profile_utf8 = utf8;
      profile_fits = fits;
      records_fit = subst (Each IsReadBack) (sym repairs.history_is) back_kept;
      numbered = subst (Each IsNumberedRec) (sym repairs.history_is) numbered_kept;
      ids_agree = subst IdsAgree (sym repairs.history_is) ids_kept;
      no_extras = none;
      extras_meet = subst (Each IsExtra) (sym repairs.extras_are) (extras_meet tops good);
    }

pub repairs_can_be_written : RepairsCanBeWritten
repairs_can_be_written options tops extras history size good repairs chunk some small few_blocks few_bytes few_attachments few_metadata =
    let keeps = repairs_keep_rules tops extras options.profile history good repairs in
    let all : extras_in history ++ extras ≡ extras = ap (λ (l : List Top). l ++ extras) keeps.no_extras in
    record {
      profile = keeps.profile_utf8;
      profile_fits = keeps.profile_fits;
      records_fit = keeps.records_fit;
      numbered = keeps.numbered;
      ids_agree = keeps.ids_agree;
      extras_meet = subst (Each IsExtra) (sym all) keeps.extras_meet;
      entries_fit = subst (λ (c : Option ℕ). Each EntriesFit (blocks_in (pieces_of c options.span history))) (sym chunk) (small_blocks_fit size options.span history some small);
      few_blocks = omega (arith, few_blocks);
      few_attachments = (let same = ap (count_of 9) all in omega (arith, same, few_attachments));
      few_metadata = (let same = ap (count_of 12) all in omega (arith, same, few_metadata));
      size_fits = omega (arith, few_bytes);
    }
