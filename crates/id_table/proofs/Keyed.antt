-- Keys and the channels for which they stand.
use Rattle.std.proofs.Common.{◌≡◌, ℕ, zero, suc, ◌<◌, ◌-◌, ◌≤◌, List, [], ◌∷◌, ◌++◌, length, slice_get, Option, Some, None, inl, inr, refl, sym, ap, subst, ◌∙◌, append-nil, length-append, arith}
use Rattle.std.specs.Prelude.{◌⊎◌, IfSome, map, option_to_list}
use Rattle.std.proofs.lemmas.Bool.{cases_lt}
use Rattle.std.proofs.lemmas.List.{length-map}
use Rattle.mcap_wire.specs.Limits.{id_limit}
use Rattle.std.specs.Option.{option_map}
use Rattle.std.proofs.lemmas.Option.{slice_get-map, get_or_from_slice_get, none-some, same_Some}
use Rattle.rec_data.specs.declared.schema.SchemaDef.{SchemaDef}
use Rattle.rec_data.specs.declared.channel.ChannelDef.{ChannelDef}
use Rattle.id_table.specs.declared.parts.Places.{Places}
use Rattle.id_table.specs.declared.keys.ChannelKey.{ChannelKey}
use Rattle.id_table.specs.declared.given.Given.{Given}
use Rattle.id_table.specs.declared.given.Given.TheVariants.{Known, New}
use Rattle.id_table.specs.declared.given.GivenIds.{GivenIds}
use Rattle.id_table.specs.Given.{Lacks, EachOnce, FoundAt, Offers, OffersTo, IsFull, IsFullTo, fresh_to, place_given, KeptKey, with_given, with_given_to}
use Rattle.id_table.specs.Ids.{ids}
use Rattle.id_table.proofs.Places.{at_end}
use Rattle.id_table.specs.Parts.{Grows, StandAt, FoundPlaces}
use Rattle.id_table.specs.Keys.{Stock, stocked, SchemaStandsAt, ShowsKey, FoundKey, schema_at, content_at, KeyStands, AllStand, Stocks}

-- ---- one key

abbrev make_channel : List ℕ → List ℕ → List (List ℕ × List ℕ) → Option SchemaDef → ChannelDef
make_channel topic encoding metadata schema = record { topic = topic; message_encoding = encoding; metadata = metadata; schema = schema }

schema_is : (schemas : List SchemaDef) (place : Option ℕ) (schema : Option SchemaDef) → SchemaStandsAt schemas place schema → schema_at schemas place ≡ schema
schema_is schemas None None shows = refl
schema_is schemas None (Some s) shows = absurd shows
schema_is schemas (Some n) None shows = absurd shows
schema_is schemas (Some n) (Some s) shows = shows

-- a key stands for one channel
pub content_is : (stock : Stock) (k : ChannelKey) (d : ChannelDef) → ShowsKey stock k d → content_at stock k ≡ d
content_is stock k d shows =
    let at = content_at stock k in
    ap (λ (l : List ℕ). make_channel l at.message_encoding at.metadata at.schema) (get_or_from_slice_get stock.texts k.parts.topic d.topic [] shows.parts.topic)
    ∙ ap (λ (l : List ℕ). make_channel d.topic l at.metadata at.schema) (get_or_from_slice_get stock.texts k.parts.message_encoding d.message_encoding [] shows.parts.encoding)
    ∙ ap (λ (l : List (List ℕ × List ℕ)). make_channel d.topic d.message_encoding l at.schema) (get_or_from_slice_get stock.maps k.parts.metadata d.metadata [] shows.parts.metadata)
    ∙ ap (λ (o : Option SchemaDef). make_channel d.topic d.message_encoding d.metadata o) (schema_is stock.schemas k.schema d.schema shows.schema)

pub stands : (stock : Stock) (k : ChannelKey) (d : ChannelDef) → ShowsKey stock k d → KeyStands stock k
stands stock k d shows = subst (λ (e : ChannelDef). ShowsKey stock k e) (sym (content_is stock k d shows)) shows

abbrev make_places : ℕ → ℕ → ℕ → Places
make_places topic encoding metadata = record { topic = topic; message_encoding = encoding; metadata = metadata }

abbrev make_key : Option ℕ → Places → ChannelKey
make_key schema parts = record { schema = schema; parts = parts }

same_schema : (schemas : List SchemaDef) → EachOnce schemas → (m n : Option ℕ) (schema : Option SchemaDef) → SchemaStandsAt schemas m schema → SchemaStandsAt schemas n schema → m ≡ n
same_schema schemas once None None None one other = refl
same_schema schemas once None None (Some s) one other = absurd one
same_schema schemas once None (Some n) None one other = absurd other
same_schema schemas once None (Some n) (Some s) one other = absurd one
same_schema schemas once (Some m) None None one other = absurd one
same_schema schemas once (Some m) None (Some s) one other = absurd other
same_schema schemas once (Some m) (Some n) None one other = absurd one
same_schema schemas once (Some m) (Some n) (Some s) one other = ap {B = Option ℕ} Some (once m n s one other)

-- what keys point to stands once
pub record IsOnce (stock : Stock) : Type 0 where
  pub schemas : EachOnce stock.schemas
  pub texts : EachOnce stock.texts
  pub maps : EachOnce stock.maps

-- and then one key stands for a channel
pub same_key : (stock : Stock) → IsOnce stock → (k l : ChannelKey) (d : ChannelDef) → ShowsKey stock k d → ShowsKey stock l d → k ≡ l
same_key stock once k l d one other =
    ap (λ (o : Option ℕ). make_key o k.parts) (same_schema stock.schemas once.schemas k.schema l.schema d.schema one.schema other.schema)
    ∙ ap (λ (n : ℕ). make_key l.schema (make_places n k.parts.message_encoding k.parts.metadata)) (once.texts k.parts.topic l.parts.topic d.topic one.parts.topic other.parts.topic)
    ∙ ap (λ (n : ℕ). make_key l.schema (make_places l.parts.topic n k.parts.metadata)) (once.texts k.parts.message_encoding l.parts.message_encoding d.message_encoding one.parts.encoding other.parts.encoding)
    ∙ ap (λ (n : ℕ). make_key l.schema (make_places l.parts.topic l.parts.message_encoding n)) (once.maps k.parts.metadata l.parts.metadata d.metadata one.parts.metadata other.parts.metadata)

-- ---- the keys of a table

-- the channel at a place is that of the key there
pub key_at : (stock : Stock) (keys : List ChannelKey) → AllStand stock keys → (n : ℕ) (d : ChannelDef) → slice_get (map (content_at stock) keys) n ≡ Some d
    → (k : ChannelKey) × (slice_get keys n ≡ Some k) × ShowsKey stock k d
key_at stock keys all n d at = by (slice_get keys n) refl
  where
    seen : option_map (content_at stock) (slice_get keys n) ≡ Some d
    seen = sym (slice_get-map (content_at stock) keys n) ∙ at

    by : (o : Option ChannelKey) → slice_get keys n ≡ o → (k : ChannelKey) × (slice_get keys n ≡ Some k) × ShowsKey stock k d
    by None is = absurd (none-some _ (sym (ap (option_map (content_at stock)) is) ∙ seen))
    by (Some k) is =
        let same = same_Some _ _ (sym (ap (option_map (content_at stock)) is) ∙ seen) in
        (k, is, subst (λ (e : ChannelDef). ShowsKey stock k e) same (all n k is))

-- and the other way round
pub content_there : (stock : Stock) (keys : List ChannelKey) (n : ℕ) (k : ChannelKey) (d : ChannelDef) → slice_get keys n ≡ Some k → ShowsKey stock k d → slice_get (map (content_at stock) keys) n ≡ Some d
content_there stock keys n k d at shows = slice_get-map (content_at stock) keys n ∙ ap (option_map (content_at stock)) at ∙ ap {B = Option ChannelDef} Some (content_is stock k d shows)

pub contents_once : (stock : Stock) (keys : List ChannelKey) → IsOnce stock → AllStand stock keys → EachOnce keys → EachOnce (map (content_at stock) keys)
contents_once stock keys once all each m n d one other =
    let k = key_at stock keys all m d one in
    let l = key_at stock keys all n d other in
    each m n k.0 k.1 (l.1 ∙ ap {B = Option ChannelKey} Some (same_key stock once l.0 k.0 d l.2 k.2))

pub found_by_key : (stock : Stock) (keys : List ChannelKey) → IsOnce stock → AllStand stock keys → (k : ChannelKey) (d : ChannelDef) (r : Option ℕ) → ShowsKey stock k d → FoundAt keys k r → length (map (content_at stock) keys) ≡ length keys
    → FoundAt (map (content_at stock) keys) d r
found_by_key stock keys once all k d None shows lacks long = λ n at.
    let l = key_at stock keys all n d at in
    lacks n (l.1 ∙ ap {B = Option ChannelKey} Some (same_key stock once l.0 k d l.2 shows))
found_by_key stock keys once all k d (Some n) shows found long = (subst (λ (m : ℕ). n < m) (sym long) found.0, content_there stock keys n k d found.1 shows)

pub lacks_key : (stock : Stock) (keys : List ChannelKey) → AllStand stock keys → (d : ChannelDef) → FoundKey stock d None → Lacks (map (content_at stock) keys) d
lacks_key stock keys all d none n at = let l = key_at stock keys all n d at in none l.0 l.2

-- a part of it stands nowhere, and so no key stands for it
pub lacks_part : (stock : Stock) (keys : List ChannelKey) → AllStand stock keys → (d : ChannelDef) → FoundPlaces stock.texts stock.maps d None → Lacks (map (content_at stock) keys) d
lacks_part stock keys all d none = lacks_key stock keys all d (λ k shows. none k.parts shows.parts)

-- ---- more behind

read_front : {X : Type 0} (xs more : List X) (n : ℕ) (x : X) → slice_get xs n ≡ Some x → slice_get (xs ++ more) n ≡ Some x
read_front [] more n x at = absurd (none-some _ at)
read_front (y ∷ xs) more zero x at = at
read_front (y ∷ xs) more (suc n) x at = read_front xs more n x at

grown : {X : Type 0} (xs ys : List X) → Grows xs ys → (n : ℕ) (x : X) → slice_get xs n ≡ Some x → slice_get ys n ≡ Some x
grown {X} xs ys grows n x at = subst (λ (l : List X). slice_get l n ≡ Some x) (sym grows.1) (read_front xs grows.0 n x at)

schema_stays : (old new : List SchemaDef) → Grows old new → (place : Option ℕ) (schema : Option SchemaDef) → SchemaStandsAt old place schema → SchemaStandsAt new place schema
schema_stays old new grows None None shows = tt
schema_stays old new grows None (Some s) shows = absurd shows
schema_stays old new grows (Some n) None shows = absurd shows
schema_stays old new grows (Some n) (Some s) shows = grown old new grows n s shows

pub shows_on : (old new : Stock) → Stocks old new → (k : ChannelKey) (d : ChannelDef) → ShowsKey old k d → ShowsKey new k d
shows_on old new more k d shows = record {
  schema = schema_stays old.schemas new.schemas more.schemas k.schema d.schema shows.schema;
  parts = record {
    topic = grown old.texts new.texts more.texts k.parts.topic d.topic shows.parts.topic;
    encoding = grown old.texts new.texts more.texts k.parts.message_encoding d.message_encoding shows.parts.encoding;
    metadata = grown old.maps new.maps more.maps k.parts.metadata d.metadata shows.parts.metadata;
  };
}

pub all_stand_on : (old new : Stock) (keys : List ChannelKey) → Stocks old new → AllStand old keys → AllStand new keys
all_stand_on old new keys more all n k at = stands new k (content_at old k) (shows_on old new more k (content_at old k) (all n k at))

pub contents_stay : (old new : Stock) (keys : List ChannelKey) → Stocks old new → AllStand old keys → map (content_at new) keys ≡ map (content_at old) keys
contents_stay old new [] more all = refl
contents_stay old new (k ∷ keys) more all =
    let one = content_is new k (content_at old k) (shows_on old new more k (content_at old k) (all 0 k refl)) in
    ap (λ (d : ChannelDef). d ∷ map (content_at new) keys) one
    ∙ ap (λ (l : List ChannelDef). content_at old k ∷ l) (contents_stay old new keys more (λ n l at. all (suc n) l at))

-- a key that shows a channel which no key showed is none of them
pub key_is_new : (old new : Stock) (keys : List ChannelKey) → Stocks old new → AllStand old keys → (k : ChannelKey) (d : ChannelDef) → Lacks (map (content_at old) keys) d → ShowsKey new k d → Lacks keys k
key_is_new old new keys more all k d lacks shows n at =
    let stood = content_is new k (content_at old k) (shows_on old new more k (content_at old k) (all n k at)) in
    let same = sym stood ∙ content_is new k d shows in
    lacks n (content_there old keys n k d at (subst (λ (e : ChannelDef). ShowsKey old k e) same (all n k at)))

at_push : {X : Type 0} (xs : List X) (y x : X) (n : ℕ) → slice_get (xs ++ y ∷ []) n ≡ Some x → (slice_get xs n ≡ Some x) ⊎ (x ≡ y)
at_push [] y x zero at = inr (sym (same_Some _ _ at))
at_push [] y x (suc n) at = absurd (none-some _ at)
at_push (z ∷ xs) y x zero at = inl at
at_push (z ∷ xs) y x (suc n) at = at_push xs y x n at

-- with a key more
pub all_stand_with : (stock : Stock) (keys : List ChannelKey) (k : ChannelKey) (d : ChannelDef) → AllStand stock keys → ShowsKey stock k d → AllStand stock (keys ++ k ∷ [])
all_stand_with stock keys k d all shows n l at = elim (at_push keys k l n at) [
  | inl before ↦ all n l before
  | inr same ↦ subst (λ (m : ChannelKey). KeyStands stock m) (sym same) (stands stock k d shows)
]

pub contents_with : (stock : Stock) (keys : List ChannelKey) (k : ChannelKey) (d : ChannelDef) → ShowsKey stock k d → map (content_at stock) (keys ++ k ∷ []) ≡ map (content_at stock) keys ++ d ∷ []
contents_with stock [] k d shows = ap (λ (e : ChannelDef). e ∷ []) (content_is stock k d shows)
contents_with stock (l ∷ keys) k d shows = ap (λ (rest : List ChannelDef). content_at stock l ∷ rest) (contents_with stock keys k d shows)

-- ---- declaring

pub not_full : {X : Type 0} (xs : List X) (x : X) → Lacks xs x → (IsFull xs x → ⊥) → length xs < id_limit
not_full xs x lacks left = elim (cases_lt (length xs) id_limit) [
  | inl less ↦ less
  | inr full ↦ absurd (left (lacks, full))
]

module _ (old : Stock) (schemas : List SchemaDef) (texts : List (List ℕ)) (maps : List (List (List ℕ × List ℕ))) (keys : List ChannelKey) (d : ChannelDef) (g : GivenIds)
    (offered : OffersTo old.schemas d.schema g.schema) (given : schemas ≡ old.schemas ++ option_to_list (fresh_to d.schema g.schema))
    (more_texts : Grows old.texts texts) (more_maps : Grows old.maps maps) (all : AllStand old keys) where
  abbrev pub now : Stock
  now = stocked schemas texts maps

  grows : Stocks old now
  grows = record { schemas = (option_to_list (fresh_to d.schema g.schema), given); texts = more_texts; maps = more_maps }

  pub stand_now : AllStand now keys
  stand_now = all_stand_on old now keys grows all

  pub stay_now : map (content_at now) keys ≡ map (content_at old) keys
  stay_now = contents_stay old now keys grows all

  schema_shows : (schema : Option SchemaDef) (s : Option Given) → OffersTo old.schemas schema s → schemas ≡ old.schemas ++ option_to_list (fresh_to schema s) → SchemaStandsAt schemas (place_given s) schema
  schema_shows None None offers is = tt
  schema_shows None (Some given) offers is = absurd offers
  schema_shows (Some x) None offers is = absurd offers
  schema_shows (Some x) (Some (Known id)) offers is = grown old.schemas schemas ([], is) (id - 1) x offers.1
  schema_shows (Some x) (Some (New id)) offers is =
      let at : id - 1 ≡ length old.schemas = omega (arith, offers.1) in
      ap (λ (n : ℕ). slice_get schemas n) at ∙ ap (λ (l : List SchemaDef). slice_get l (length old.schemas)) is ∙ at_end old.schemas x

  pub kept_shows : (k : ChannelKey) → k.schema ≡ place_given g.schema → StandAt texts maps d k.parts → ShowsKey now k d
  kept_shows k place parts = record {
    schema = subst (λ (o : Option ℕ). SchemaStandsAt schemas o d.schema) (sym place) (schema_shows d.schema g.schema offered given);
    parts = parts;
  }

  pub kept_is_new : (k : ChannelKey) → k.schema ≡ place_given g.schema → StandAt texts maps d k.parts → Lacks (map (content_at old) keys) d → Lacks keys k
  kept_is_new k place parts lacks = key_is_new old now keys grows all k d lacks (kept_shows k place parts)

  -- the keys with the one that is kept
  pub stand_with : (kept : Option ChannelKey) → KeptKey texts maps d g.schema g.channel kept → AllStand now (keys ++ option_to_list kept)
  stand_with kept = by g.channel kept
    where
      by : (c : Given) (kept : Option ChannelKey) → KeptKey texts maps d g.schema c kept → AllStand now (keys ++ option_to_list kept)
      by (Known id) None is = subst (λ (l : List ChannelKey). AllStand now l) (sym (append-nil keys)) stand_now
      by (Known id) (Some k) is = absurd (none-some _ (sym is))
      by (New id) None is = absurd is
      by (New id) (Some k) is = all_stand_with now keys k d stand_now (kept_shows k is.0 is.1)

  pub channels_with : (kept : Option ChannelKey) → KeptKey texts maps d g.schema g.channel kept → map (content_at now) (keys ++ option_to_list kept) ≡ with_given (map (content_at old) keys) d g.channel
  channels_with kept = by g.channel kept
    where
      by : (c : Given) (kept : Option ChannelKey) → KeptKey texts maps d g.schema c kept → map (content_at now) (keys ++ option_to_list kept) ≡ with_given (map (content_at old) keys) d c
      by (Known id) None is = ap (map (content_at now)) (append-nil keys) ∙ stay_now
      by (Known id) (Some k) is = absurd (none-some _ (sym is))
      by (New id) None is = absurd is
      by (New id) (Some k) is = contents_with now keys k d (kept_shows k is.0 is.1) ∙ ap (λ (l : List ChannelDef). l ++ d ∷ []) stay_now

  -- a key that is kept may be entered
  pub may_enter : (kept : Option ChannelKey) (entered : List ChannelKey) (room : ℕ) → entered ≡ keys → KeptKey texts maps d g.schema g.channel kept → Offers (map (content_at old) keys) d g.channel → IfSome kept (λ k. 0 < room)
      → IfSome kept (λ k. (0 < room) × Lacks entered k)
  may_enter kept entered room same = by g.channel kept
    where
      by : (c : Given) (kept : Option ChannelKey) → KeptKey texts maps d g.schema c kept → Offers (map (content_at old) keys) d c → IfSome kept (λ k. 0 < room) → IfSome kept (λ k. (0 < room) × Lacks entered k)
      by (Known id) None is offers has = tt
      by (Known id) (Some k) is offers has = absurd (none-some _ (sym is))
      by (New id) None is offers has = absurd is
      by (New id) (Some k) is offers has = (has, subst (λ (l : List ChannelKey). Lacks l k) (sym same) (kept_is_new k is.0 is.1 offers.0))

  -- and ids are left for it
  pub few_with : (kept : Option ChannelKey) → KeptKey texts maps d g.schema g.channel kept → Offers (map (content_at old) keys) d g.channel → (IsFull (map (content_at old) keys) d → ⊥) → length keys ≤ id_limit
      → length (keys ++ option_to_list kept) ≤ id_limit
  few_with kept = by g.channel kept
    where
      by : (c : Given) (kept : Option ChannelKey) → KeptKey texts maps d g.schema c kept → Offers (map (content_at old) keys) d c → (IsFull (map (content_at old) keys) d → ⊥) → length keys ≤ id_limit → length (keys ++ option_to_list kept) ≤ id_limit
      by (Known id) None is offers left few = omega (arith, few, length-append keys [])
      by (Known id) (Some k) is offers left few = absurd (none-some _ (sym is))
      by (New id) None is offers left few = absurd is
      by (New id) (Some k) is offers left few =
          let long : length (map (content_at old) keys) ≡ length keys = length-map keys (content_at old) in
          let less = not_full (map (content_at old) keys) d offers.0 left in
          omega (arith, long, less, length-append keys (k ∷ []))

-- the schemas with the new one
pub schemas_with : (xs : List SchemaDef) (x : Option SchemaDef) (s : Option Given) → OffersTo xs x s → xs ++ option_to_list (fresh_to x s) ≡ with_given_to xs x s
schemas_with xs None None offers = append-nil xs
schemas_with xs None (Some given) offers = absurd offers
schemas_with xs (Some x) None offers = absurd offers
schemas_with xs (Some x) (Some (Known id)) offers = append-nil xs
schemas_with xs (Some x) (Some (New id)) offers = refl

pub few_schemas : (xs : List SchemaDef) (x : Option SchemaDef) (s : Option Given) → OffersTo xs x s → (IsFullTo xs x → ⊥) → length xs ≤ id_limit → length (xs ++ option_to_list (fresh_to x s)) ≤ id_limit
few_schemas xs None None offers left few = omega (arith, few, length-append xs [])
few_schemas xs None (Some given) offers left few = absurd offers
few_schemas xs (Some x) None offers left few = absurd offers
few_schemas xs (Some x) (Some (Known id)) offers left few = omega (arith, few, length-append xs [])
few_schemas xs (Some x) (Some (New id)) offers left few =
    let less = not_full xs x offers.0 left in
    omega (arith, less, length-append xs (x ∷ []))

-- ---- where nothing is given

module _ (old : Stock) (schemas : List SchemaDef) (texts : List (List ℕ)) (maps : List (List (List ℕ × List ℕ))) (keys entered : List ChannelKey)
    (same : schemas ≡ old.schemas) (more_texts : Grows old.texts texts) (more_maps : Grows old.maps maps) (same_keys : entered ≡ keys) (all : AllStand old keys) where
  on : Stocks old (stocked schemas texts maps)
  on = record { schemas = ([], same ∙ sym (append-nil old.schemas)); texts = more_texts; maps = more_maps }

  pub stand_still : AllStand (stocked schemas texts maps) entered
  stand_still = subst (λ (l : List ChannelKey). AllStand (stocked schemas texts maps) l) (sym same_keys) (all_stand_on old (stocked schemas texts maps) keys on all)

  pub contents_still : map (content_at (stocked schemas texts maps)) entered ≡ map (content_at old) keys
  contents_still = ap (map (content_at (stocked schemas texts maps))) same_keys ∙ contents_stay old (stocked schemas texts maps) keys on all

pub same_ids : (schemas s : List SchemaDef) (channels c : List ChannelDef) → schemas ≡ s → channels ≡ c → ids schemas channels ≡ ids s c
same_ids schemas s channels c one other = ap (λ (l : List SchemaDef). ids l channels) one ∙ ap (λ (l : List ChannelDef). ids s l) other
