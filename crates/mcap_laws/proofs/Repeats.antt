-- A history without what declares an id again.
use Rattle.std.proofs.Common.{◌≡◌, ◌⊎◌, ℕ, suc, Bool, true, false, ◌||◌, List, [], ◌∷◌, ◌++◌, length, map, refl, sym, ap, subst, inl, inr, ◌∙◌, append_assoc}
use Rattle.std.specs.Prelude.{fold, if◌then◌else◌}
use Rattle.std.specs.List.{list_any}
use Rattle.std.proofs.lemmas.Bool.{both_ways, eqb-true}
use Rattle.std.proofs.lemmas.List.{append-nil}
use Rattle.rec_data.specs.declared.owned.Rec.{Rec}
use Rattle.rec_data.specs.declared.owned.Rec.TheVariants.{Schema, Channel, Message, Extra}
use Rattle.mcap_model.specs.Places.{At, Has, Each, EachBehind}
use Rattle.mcap_model.specs.Tops.{Top}
use Rattle.mcap_model.specs.Fields.{SchemaFields, IsSchema, ChannelFields, IsChannel}
use Rattle.mcap_model.specs.Rules.{HasSchema, HasChannel, Agrees}
use Rattle.mcap_model.specs.History.{rec_top, schema_of, channel_of, declare_same, kept_with, without_repeats}
use Rattle.mcap_model.specs.Laws.{IsNumberedRec, IsInner, RepeatsMayGo}
use Rattle.mcap_model.proofs.Asides.{body_whole}
use Rattle.mcap_model.specs.ReadBack.{IsReadBack}
use Rattle.mcap_model.proofs.Places.{at_none, at_kept, at_last, at_more, has_kept, has_last, each_more, each_at}
use Rattle.mcap_model.proofs.ReadBack.{schema_back, channel_back, at_map}
use Rattle.mcap_model.proofs.Histories.{schema_shown, channel_shown, recs_are_flat}
use Rattle.mcap_model.proofs.Flat.{map-append, at_mapped}

-- ---- what declares the same id

other_schema : (id : ℕ) (f : SchemaFields) (k : Rec) → declare_same (schema_of id f) k ≡ true → (g : SchemaFields) × (k ≡ schema_of id g)
other_schema id f (Schema other s) same =
    let g : SchemaFields = record { name = s.name; encoding = s.encoding; payload = s.payload } in
    (g, ap (λ (n : ℕ). schema_of n g) (sym (eqb-true id other same)))
other_schema id f (Channel other schema topic encoding metadata) same = absurd (both_ways false refl same)
other_schema id f (Message channel sequence log_time publish_time payload) same = absurd (both_ways false refl same)
other_schema id f (Extra op content) same = absurd (both_ways false refl same)

other_channel : (id : ℕ) (f : ChannelFields) (k : Rec) → declare_same (channel_of id f) k ≡ true → (g : ChannelFields) × (k ≡ channel_of id g)
other_channel id f (Schema other s) same = absurd (both_ways false refl same)
other_channel id f (Channel other schema topic encoding metadata) same =
    let g : ChannelFields = record { schema = schema; topic = topic; encoding = encoding; metadata = metadata } in
    (g, ap (λ (n : ℕ). channel_of n g) (sym (eqb-true id other same)))
other_channel id f (Message channel sequence log_time publish_time payload) same = absurd (both_ways false refl same)
other_channel id f (Extra op content) same = absurd (both_ways false refl same)

found : (test : Rec → Bool) (xs : List Rec) → list_any test xs ≡ true → (k : Rec) × Has xs k × (test k ≡ true)
found test [] any = absurd (both_ways false refl any)
found test (x ∷ xs) any = by (test x) refl any (found test xs)
  where
    by : (b : Bool) → test x ≡ b → (b || list_any test xs) ≡ true → (list_any test xs ≡ true → (k : Rec) × Has xs k × (test k ≡ true)) → (k : Rec) × Has (x ∷ xs) k × (test k ≡ true)
    by true is any later = (x, (0, refl), is)
    by false is any later = let (k, there, passes) = later any in (k, (suc there.0, there.1), passes)

-- ---- what is kept of the records so far

-- What is kept agrees, comes from them, and declares each id that they declare.
record Thinned (done kept : List Rec) : Type 0 where
  agree : EachBehind Agrees (map rec_top kept)
  from : (r : Rec) → Has kept r → Has done r
  schemas : (id : ℕ) → HasSchema (map rec_top done) id → HasSchema (map rec_top kept) id
  channels : (id : ℕ) → HasChannel (map rec_top done) id → HasChannel (map rec_top kept) id

more_tops : (xs : List Rec) (r : Rec) → map rec_top (xs ++ r ∷ []) ≡ map rec_top xs ++ rec_top r ∷ []
more_tops xs r = map-append rec_top xs (r ∷ [])

schema_kept : (xs : List Rec) (r : Rec) (id : ℕ) → HasSchema (map rec_top xs) id → HasSchema (map rec_top (xs ++ r ∷ [])) id
schema_kept xs r id has = record {
  place = has.place;
  top = has.top;
  shown = has.shown;
  at = subst (λ (l : List Top). At l has.place has.top) (sym (more_tops xs r)) (at_kept (map rec_top xs) (rec_top r ∷ []) has.place has.top has.at);
  is = has.is;
}

channel_kept : (xs : List Rec) (r : Rec) (id : ℕ) → HasChannel (map rec_top xs) id → HasChannel (map rec_top (xs ++ r ∷ [])) id
channel_kept xs r id has = record {
  place = has.place;
  top = has.top;
  shown = has.shown;
  at = subst (λ (l : List Top). At l has.place has.top) (sym (more_tops xs r)) (at_kept (map rec_top xs) (rec_top r ∷ []) has.place has.top has.at);
  is = has.is;
}

last_top : (xs : List Rec) (r : Rec) → At (map rec_top (xs ++ r ∷ [])) (length (map rec_top xs)) (rec_top r)
last_top xs r = subst (λ (l : List Top). At l (length (map rec_top xs)) (rec_top r)) (sym (more_tops xs r)) (at_last (map rec_top xs) (rec_top r) [])

-- a declared id is that of a record before, or of the last one
schema_split : (xs : List Rec) (r : Rec) (id : ℕ) → HasSchema (map rec_top (xs ++ r ∷ [])) id → HasSchema (map rec_top xs) id ⊎ ((f : SchemaFields) × IsSchema (rec_top r) id f)
schema_split xs r id has = elim (at_more (map rec_top xs) (rec_top r) has.place has.top (subst (λ (l : List Top). At l has.place has.top) (more_tops xs r) has.at)) [
  | inl old ↦ inl (record { place = has.place; top = has.top; shown = has.shown; at = old; is = has.is })
  | inr here ↦ inr (has.shown, subst (λ (t : Top). IsSchema t id has.shown) here.1 has.is)
]

channel_split : (xs : List Rec) (r : Rec) (id : ℕ) → HasChannel (map rec_top (xs ++ r ∷ [])) id → HasChannel (map rec_top xs) id ⊎ ((f : ChannelFields) × IsChannel (rec_top r) id f)
channel_split xs r id has = elim (at_more (map rec_top xs) (rec_top r) has.place has.top (subst (λ (l : List Top). At l has.place has.top) (more_tops xs r) has.at)) [
  | inl old ↦ inl (record { place = has.place; top = has.top; shown = has.shown; at = old; is = has.is })
  | inr here ↦ inr (has.shown, subst (λ (t : Top). IsChannel t id has.shown) here.1 has.is)
]

-- a record that agrees with all agrees with what is kept
agrees_kept : (done kept : List Rec) (t : Top) → Thinned done kept → Agrees (map rec_top done) t → Agrees (map rec_top kept) t
agrees_kept done kept t thin agrees = record {
  schemas = λ id f g n u is at other. let was = there n u at in agrees.schemas id f g was.0 u is was.1 other;
  channels = λ id f g n u is at other. let was = there n u at in agrees.channels id f g was.0 u is was.1 other;
  schema = λ id f is. elim (agrees.schema id f is) [
    | inl none ↦ inl none
    | inr has ↦ inr (thin.schemas f.schema has)
  ];
  channel = λ id m is. thin.channels id (agrees.channel id m is);
}
  where
    there : (n : ℕ) (u : Top) → At (map rec_top kept) n u → Has (map rec_top done) u
    there n u at =
        let (k, here, same) = at_map rec_top kept n u at in
        let was = thin.from k (n, here) in
        (was.0, subst (λ (x : Top). At (map rec_top done) was.0 x) (sym same) (at_mapped rec_top done was.0 k was.1))

-- ---- one record more

left_out : (done kept : List Rec) (r k : Rec) → Thinned done kept → Each IsReadBack (done ++ r ∷ []) → Each IsNumberedRec (done ++ r ∷ []) → Has kept k → declare_same r k ≡ true → Thinned (done ++ r ∷ []) kept
left_out done kept r k thin back some has same = record {
  agree = thin.agree;
  from = λ x there. has_kept done (r ∷ []) x (thin.from x there);
  schemas = λ id declared. elim (schema_split done r id declared) [
    | inl old ↦ thin.schemas id old
    | inr (f, is) ↦ schema_there id f (schema_back r id f own is)
  ];
  channels = λ id declared. elim (channel_split done r id declared) [
    | inl old ↦ thin.channels id old
    | inr (f, is) ↦ channel_there id f (channel_back r id f own is)
  ];
}
  where
    own : IsReadBack r
    own = back (length done) r (at_last done r [])

    was : Has (done ++ r ∷ []) k
    was = has_kept done (r ∷ []) k (thin.from k has)

    schema_there : (id : ℕ) (f : SchemaFields) → r ≡ schema_of id f → HasSchema (map rec_top kept) id
    schema_there id f is =
        let (g, other) = other_schema id f k (ap (λ (x : Rec). declare_same x k) (sym is) ∙ same) in
        record {
          place = has.0;
          top = rec_top (schema_of id g);
          shown = g;
          at = subst (λ (x : Rec). At (map rec_top kept) has.0 (rec_top x)) other (at_mapped rec_top kept has.0 k has.1);
          is = schema_shown id g (subst IsReadBack other (back was.0 k was.1)) (some was.0 k was.1 id g other);
        }

    channel_there : (id : ℕ) (f : ChannelFields) → r ≡ channel_of id f → HasChannel (map rec_top kept) id
    channel_there id f is =
        let (g, other) = other_channel id f k (ap (λ (x : Rec). declare_same x k) (sym is) ∙ same) in
        record {
          place = has.0;
          top = rec_top (channel_of id g);
          shown = g;
          at = subst (λ (x : Rec). At (map rec_top kept) has.0 (rec_top x)) other (at_mapped rec_top kept has.0 k has.1);
          is = channel_shown id g (subst IsReadBack other (back was.0 k was.1));
        }

taken : (done kept : List Rec) (r : Rec) → Thinned done kept → Agrees (map rec_top done) (rec_top r) → Thinned (done ++ r ∷ []) (kept ++ r ∷ [])
taken done kept r thin agrees = record {
  agree = subst (EachBehind Agrees) (sym (more_tops kept r)) (each_more Agrees (map rec_top kept) (rec_top r) thin.agree (agrees_kept done kept (rec_top r) thin agrees));
  from = λ x has. elim (at_more kept r has.0 x has.1) [
    | inl old ↦ has_kept done (r ∷ []) x (thin.from x (has.0, old))
    | inr here ↦ subst (Has (done ++ r ∷ [])) (sym here.1) (has_last done r [])
  ];
  schemas = λ id declared. elim (schema_split done r id declared) [
    | inl old ↦ schema_kept kept r id (thin.schemas id old)
    | inr (f, is) ↦ record { place = length (map rec_top kept); top = rec_top r; shown = f; at = last_top kept r; is = is }
  ];
  channels = λ id declared. elim (channel_split done r id declared) [
    | inl old ↦ channel_kept kept r id (thin.channels id old)
    | inr (f, is) ↦ record { place = length (map rec_top kept); top = rec_top r; shown = f; at = last_top kept r; is = is }
  ];
}

step : (done kept : List Rec) (r : Rec) (b : Bool) → list_any (declare_same r) kept ≡ b → Thinned done kept → Each IsReadBack (done ++ r ∷ []) → Each IsNumberedRec (done ++ r ∷ []) → Agrees (map rec_top done) (rec_top r)
    → Thinned (done ++ r ∷ []) (if b then kept else kept ++ r ∷ [])
step done kept r true any thin back some agrees = let (k, has, same) = found (declare_same r) kept any in left_out done kept r k thin back some has same
step done kept r false any thin back some agrees = taken done kept r thin agrees

-- ---- all of them

each_start : {X : Type 0} (P : X → Type 0) (xs ys : List X) → Each P (xs ++ ys) → Each P xs
each_start P xs ys each n x at = each n x (at_kept xs ys n x at)

thinned : (done rs kept : List Rec) → Thinned done kept → Each IsReadBack (done ++ rs) → Each IsNumberedRec (done ++ rs) → EachBehind Agrees (map rec_top (done ++ rs)) → Thinned (done ++ rs) (fold kept_with kept rs)
thinned done [] kept thin back some agrees = subst (λ (l : List Rec). Thinned l kept) (sym (append-nil done)) thin
thinned done (r ∷ rs) kept thin back some agrees =
    let joined : done ++ r ∷ rs ≡ (done ++ r ∷ []) ++ rs = sym (append_assoc done (r ∷ []) rs) in
    let backs = subst (Each IsReadBack) joined back in
    let somes = subst (Each IsNumberedRec) joined some in
    let mine = each_at Agrees (map rec_top done) (rec_top r) (map rec_top rs) (subst (EachBehind Agrees) (map-append rec_top done (r ∷ rs)) agrees) in
    let next = step done kept r (list_any (declare_same r) kept) refl thin (each_start IsReadBack (done ++ r ∷ []) rs backs) (each_start IsNumberedRec (done ++ r ∷ []) rs somes) mine in
    subst (λ (l : List Rec). Thinned l (fold kept_with (kept_with kept r) rs)) (sym joined)
    (thinned (done ++ r ∷ []) rs (kept_with kept r) next backs somes (subst (λ (l : List Rec). EachBehind Agrees (map rec_top l)) joined agrees))

pub repeats_may_go : RepeatsMayGo
repeats_may_go history back some inner agree =
    let start : Thinned [] [] = record {
      agree = λ n t at. absurd (at_none n t at);
      from = λ r has. has;
      schemas = λ id has. has;
      channels = λ id has. has;
    } in
    let thin = thinned [] history [] start back some (subst (EachBehind Agrees) (recs_are_flat history back ∙ ap (map rec_top) (body_whole history inner)) agree) in
    let kept_back : Each IsReadBack (without_repeats history) = λ n r at. let was = thin.from r (n, at) in back was.0 r was.1 in
    let kept_inner : Each IsInner (without_repeats history) = λ n r at. let was = thin.from r (n, at) in inner was.0 r was.1 in (
      subst (EachBehind Agrees) (sym (recs_are_flat (without_repeats history) kept_back ∙ ap (map rec_top) (body_whole (without_repeats history) kept_inner))) thin.agree,
      kept_back,
      λ n r at. let was = thin.from r (n, at) in some was.0 r was.1,
    )
