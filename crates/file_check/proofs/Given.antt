-- The records that were given in their places, with one more.
use Rattle.std.proofs.Common.{◌≡◌, ◌⊎◌, ℕ, ◌+◌, ◌^◌, ◌<◌, Bool, true, false, List, [], ◌∷◌, ◌++◌, length, filter, cond, refl, sym, ap, subst, inl, inr, ◌∙◌, append_assoc, arith}
use Rattle.std.proofs.lemmas.Bool.{eqb-true}
use Rattle.std.proofs.lemmas.List.{append-nil, append_cancel_left, length-append}
use Rattle.std.proofs.lemmas.List.Elements.{filter-append}
use Rattle.mcap_model.specs.Places.{At, Each}
use Rattle.mcap_model.specs.Tops.{Top, Placed, top_bytes, spelled, offset_behind, is_chunk, inner_tops, unchunked, is_flat_kind, flattened, flat, placed_inside}
use Rattle.mcap_model.specs.WalkedRecords.{walked_one, walked_from, walked}
use Rattle.mcap_model.specs.Made.{top}
use Rattle.mcap_model.specs.Kept.{reading_limits, Fits, Good}
use Rattle.mcap_model.specs.Scan.{tops_of}
use Rattle.mcap_model.proofs.Cutting.{last_of}
use Rattle.mcap_model.proofs.Flat.{inside_tops, map-append, flat_more}
use Rattle.mcap_model.proofs.Lists.{each_cons}
use Rattle.mcap_model.proofs.Logging.{few_filtered}
use Rattle.mcap_model.proofs.Places.{at_none, at_last, each_at}
use Rattle.mcap_model.proofs.Readings.{length-top}
use Rattle.mcap_model.proofs.TakenRecords.{spelled_more}
use Rattle.file_check.specs.Givens.{flat_given, at_top, inside_of, LastGiven, GivenTo}
use Rattle.file_check.proofs.Flattening.{flat_few}

-- ---- lists

first_same : {X : Type 0} (x y : X) (xs ys : List X) → x ∷ xs ≡ y ∷ ys → x ≡ y
first_same x y xs ys e = cc

rest_same : {X : Type 0} (x y : X) (xs ys : List X) → x ∷ xs ≡ y ∷ ys → xs ≡ ys
rest_same x y xs ys e = cc

none_same : {X : Type 0} (x : X) (xs : List X) → [] ≡ x ∷ xs → ⊥
none_same x xs e = cc

-- ---- the records that a walk comes to

-- what begins with the records of some, begins with these
front_split : (at : ℕ) (xs tops : List Top) (rest : List Placed) → walked_from at tops ≡ walked_from at xs ++ rest → (more : List Top) × (tops ≡ xs ++ more) × (rest ≡ walked_from (at + length (spelled xs)) more)
front_split at [] tops rest same = (tops, refl, sym same ∙ ap (λ (n : ℕ). walked_from n tops) (omega arith))
front_split at (x ∷ xs) [] rest same = absurd (none_same (at_top at x) ((inside_of at x ++ walked_from (at + length (top_bytes x)) xs) ++ rest) same)
front_split at (x ∷ xs) (t ∷ ts) rest same =
    let is : t ≡ x = ap (λ (p : Placed). p.top) (first_same (at_top at t) (at_top at x) (inside_of at t ++ walked_from (at + length (top_bytes t)) ts) ((inside_of at x ++ walked_from (at + length (top_bytes x)) xs) ++ rest) same) in
    let behind = rest_same (at_top at t) (at_top at x) (inside_of at t ++ walked_from (at + length (top_bytes t)) ts) ((inside_of at x ++ walked_from (at + length (top_bytes x)) xs) ++ rest) same in
    let own : inside_of at x ++ walked_from (at + length (top_bytes x)) ts ≡ inside_of at x ++ (walked_from (at + length (top_bytes x)) xs ++ rest) =
    subst (λ (u : Top). inside_of at u ++ walked_from (at + length (top_bytes u)) ts ≡ (inside_of at x ++ walked_from (at + length (top_bytes x)) xs) ++ rest) is behind
    ∙ append_assoc (inside_of at x) (walked_from (at + length (top_bytes x)) xs) rest in
    let (more, split, there) = front_split (at + length (top_bytes x)) xs ts rest (append_cancel_left (inside_of at x) (walked_from (at + length (top_bytes x)) ts) (walked_from (at + length (top_bytes x)) xs ++ rest) own) in
    (more, ap (λ (u : Top). u ∷ ts) is ∙ ap (λ (l : List Top). x ∷ l) split, there ∙ ap (λ (n : ℕ). walked_from n more) (omega (arith, length-append (top_bytes x) (spelled xs))))

inside_stands : (chunk at : ℕ) (ts : List Top) → Each (λ q. q.place.top ≡ chunk) (placed_inside chunk at ts)
inside_stands chunk at [] = λ n q there. absurd (at_none n q there)
inside_stands chunk at (t ∷ ts) =
    each_cons (λ q. q.place.top ≡ chunk) (record { place = record { top = chunk; inner = at }; top = t }) (placed_inside chunk (at + length (top_bytes t)) ts) refl (inside_stands chunk (at + length (top_bytes t)) ts)

inside_of_stands : (at : ℕ) (t : Top) → Each (λ q. q.place.top ≡ at) (inside_of at t)
inside_of_stands at t = by (is_chunk t)
  where
    by : (b : Bool) → Each (λ q. q.place.top ≡ at) (cond b (placed_inside at 0 (inner_tops t)) [])
    by true = inside_stands at 0 (inner_tops t)
    by false = λ n q there. absurd (at_none n q there)

-- ---- one record more

-- a record inside the last one
pub record IsInside (given : List Placed) (done : List Top) (last : ℕ) (p : Placed) : Type 0 where
  pub there : p.place.top ≡ last
  pub to : GivenTo (given ++ p ∷ []) done last

-- the next one of the top level
pub record IsNext (given : List Placed) (done : List Top) (last : ℕ) (p : Placed) (tops : List Top) : Type 0 where
  pub past : last < p.place.top
  pub there : p.place.top ≡ offset_behind done
  pub more : List Top
  pub split : tops ≡ done ++ p.top ∷ more
  pub to : GivenTo (given ++ p ∷ []) (done ++ p.top ∷ []) p.place.top

next_case : (given : List Placed) (done : List Top) (last at : ℕ) (u : Top) (us tops : List Top) → given ≡ walked done → at ≡ offset_behind done → last < at → tops ≡ done ++ u ∷ us → IsNext given done last (at_top at u) tops
next_case given done last at u us tops are there past split = record {
  past = past;
  there = there;
  more = us;
  split = split;
  to = inr (record {
    front = done;
    top = u;
    part = [];
    due = inside_of at u;
    joined = refl;
    are = ap (λ (l : List Placed). l ++ at_top at u ∷ []) are;
    inside = refl;
    there = there;
  });
}

walked_joined : (at : ℕ) (xs ys : List Top) → walked_from at (xs ++ ys) ≡ walked_from at xs ++ walked_from (at + length (spelled xs)) ys
walked_joined at [] ys = ap (λ (n : ℕ). walked_from n ys) (omega arith)
walked_joined at (x ∷ xs) ys =
    let next = at + length (top_bytes x) in
    ap (λ (l : List Placed). walked_one at x ++ l) (walked_joined next xs ys ∙ ap (λ (n : ℕ). walked_from next xs ++ walked_from n ys) (omega (arith, length-append (top_bytes x) (spelled xs))))
    ∙ sym (append_assoc (walked_one at x) (walked_from next xs) (walked_from (at + length (spelled (x ∷ xs))) ys))

-- where none is due, all were given
none_due : (given : List Placed) (done : List Top) (last : ℕ) (g : LastGiven given done last) → g.due ≡ [] → given ≡ walked done
none_due given done last g none =
    let inside : g.part ≡ inside_of (offset_behind g.front) g.top ++ [] =
    sym (append-nil g.part) ∙ ap (λ (l : List Placed). g.part ++ l) (sym none) ∙ sym g.inside ∙ ap (λ (n : ℕ). inside_of n g.top) g.there ∙ sym (append-nil (inside_of (offset_behind g.front) g.top)) in
    g.are
    ∙ ap (λ (n : ℕ). walked g.front ++ (at_top n g.top ∷ g.part)) g.there
    ∙ ap (λ (l : List Placed). walked g.front ++ (at_top (offset_behind g.front) g.top ∷ l)) inside
    ∙ sym (walked_joined 8 g.front (g.top ∷ []))
    ∙ ap walked (sym g.joined)

-- what stands behind the records in front of the last one, in a file that begins with what was given
record Behind (given : List Placed) (done : List Top) (last : ℕ) (g : LastGiven given done last) (tops : List Top) (rest : List Placed) : Type 0 where
  pub more : List Top
  pub split : tops ≡ g.front ++ g.top ∷ more
  pub left : rest ≡ g.due ++ walked_from (offset_behind g.front + length (top_bytes g.top)) more

behind_front : (given : List Placed) (done : List Top) (last : ℕ) (g : LastGiven given done last) (tops : List Top) (rest : List Placed) → walked tops ≡ given ++ rest → Behind given done last g tops rest
behind_front given done last g tops rest same =
    let all : walked tops ≡ walked g.front ++ (at_top last g.top ∷ (g.part ++ rest)) =
    same ∙ ap (λ (l : List Placed). l ++ rest) g.are ∙ append_assoc (walked g.front) (at_top last g.top ∷ g.part) rest in
    let (more, tops_are, there) = front_split 8 g.front tops (at_top last g.top ∷ (g.part ++ rest)) all in
    by more tops_are there
  where
    at : ℕ
    at = offset_behind g.front

    by : (more : List Top) → tops ≡ g.front ++ more → at_top last g.top ∷ (g.part ++ rest) ≡ walked_from at more → Behind given done last g tops rest
    by [] are there = absurd (none_same (at_top last g.top) (g.part ++ rest) (sym there))
    by (t ∷ ts) are there =
        let behind = rest_same (at_top last g.top) (at_top at t) (g.part ++ rest) (inside_of at t ++ walked_from (at + length (top_bytes t)) ts) there in
        let is : t ≡ g.top = sym (ap (λ (p : Placed). p.top) (first_same (at_top last g.top) (at_top at t) (g.part ++ rest) (inside_of at t ++ walked_from (at + length (top_bytes t)) ts) there)) in
        let next = walked_from (at + length (top_bytes g.top)) ts in
        let inside : inside_of at g.top ≡ g.part ++ g.due = sym (ap (λ (n : ℕ). inside_of n g.top) g.there) ∙ g.inside in
        let own : g.part ++ rest ≡ g.part ++ (g.due ++ next) =
        subst (λ (u : Top). g.part ++ rest ≡ inside_of at u ++ walked_from (at + length (top_bytes u)) ts) is behind ∙ ap (λ (l : List Placed). l ++ next) inside ∙ append_assoc g.part g.due next in
        record { more = ts; split = are ∙ ap (λ (u : Top). g.front ++ u ∷ ts) is; left = append_cancel_left g.part rest (g.due ++ next) own }

-- one record more stands inside the last one, or is the next one
pub given_more : (given : List Placed) (done : List Top) (last : ℕ) (tops : List Top) (p : Placed) (ahead : List Placed) → GivenTo given done last → walked tops ≡ (given ++ p ∷ []) ++ ahead
    → IsInside given done last p ⊎ IsNext given done last p tops
given_more given done last tops p ahead (inl (none, empty, zero_is)) same = by tops refl (same ∙ ap (λ (l : List Placed). (l ++ p ∷ []) ++ ahead) none)
  where
    by : (list : List Top) → tops ≡ list → walked list ≡ p ∷ ahead → IsInside given done last p ⊎ IsNext given done last p tops
    by [] are all = absurd (none_same p ahead all)
    by (t ∷ ts) are all =
        let is = first_same (at_top 8 t) p (inside_of 8 t ++ walked_from (8 + length (top_bytes t)) ts) ahead all in
        inr (subst (λ (q : Placed). IsNext given done last q tops) is
        (next_case given done last 8 t ts tops (none ∙ sym (ap walked empty)) (sym (ap offset_behind empty)) (omega (arith, zero_is)) (are ∙ ap (λ (l : List Top). l ++ t ∷ ts) (sym empty))))
given_more given done last tops p ahead (inr g) same =
    let b = behind_front given done last g tops (p ∷ ahead) (same ∙ append_assoc given (p ∷ []) ahead) in
    by g.due refl b.more b.split b.left
  where
    at : ℕ
    at = offset_behind g.front + length (top_bytes g.top)

    by : (due : List Placed) → g.due ≡ due → (more : List Top) → tops ≡ g.front ++ g.top ∷ more → p ∷ ahead ≡ due ++ walked_from at more → IsInside given done last p ⊎ IsNext given done last p tops
    by (d ∷ ds) are more split left =
        let is = first_same p d ahead (ds ++ walked_from at more) left in
        let inside : inside_of last g.top ≡ g.part ++ p ∷ ds = g.inside ∙ ap (λ (l : List Placed). g.part ++ l) (are ∙ ap (λ (q : Placed). q ∷ ds) (sym is)) in
        inl (record {
          there = inside_of_stands last g.top (length g.part) p (subst (λ (l : List Placed). At l (length g.part) p) (sym inside) (at_last g.part p ds));
          to = inr (record {
            front = g.front;
            top = g.top;
            part = g.part ++ p ∷ [];
            due = ds;
            joined = g.joined;
            are = ap (λ (l : List Placed). l ++ p ∷ []) g.are ∙ append_assoc (walked g.front) (at_top last g.top ∷ g.part) (p ∷ []);
            inside = inside ∙ sym (append_assoc g.part (p ∷ []) ds);
            there = g.there;
          });
        })
    by [] none [] split left = absurd (none_same p ahead (sym left))
    by [] none (u ∷ us) split left =
        let is = first_same p (at_top at u) ahead (inside_of at u ++ walked_from (at + length (top_bytes u)) us) left in
        let text = ap length (ap spelled g.joined ∙ spelled_more g.front g.top) in
        inr (subst (λ (q : Placed). IsNext given done last q tops) (sym is)
        (next_case given done last at u us tops (none_due given done last g none) (omega (arith, text, length-append (spelled g.front) (top_bytes g.top))) (omega (arith, g.there, length-top g.top))
        (split ∙ sym (append_assoc g.front (g.top ∷ []) (u ∷ us)) ∙ ap (λ (l : List Top). l ++ u ∷ us) (sym g.joined))))

-- where all records were given, those of the top level are all
pub given_whole : (given : List Placed) (done : List Top) (last : ℕ) (tops : List Top) → GivenTo given done last → given ≡ walked tops → tops ≡ done
given_whole given done last [] (inl (none, empty, zero_is)) same = sym empty
given_whole given done last (t ∷ ts) (inl (none, empty, zero_is)) same = absurd (none_same (at_top 8 t) (inside_of 8 t ++ walked_from (8 + length (top_bytes t)) ts) (sym none ∙ same))
given_whole given done last tops (inr g) same =
    let b = behind_front given done last g tops [] (sym same ∙ sym (append-nil given)) in
    b.split ∙ ap (λ (l : List Top). g.front ++ g.top ∷ l) (ends g.due b.more b.left) ∙ sym g.joined
  where
    at : ℕ
    at = offset_behind g.front + length (top_bytes g.top)

    ends : (due : List Placed) (more : List Top) → [] ≡ due ++ walked_from at more → more ≡ []
    ends due [] left = refl
    ends [] (u ∷ us) left = absurd (none_same (at_top at u) (inside_of at u ++ walked_from (at + length (top_bytes u)) us) left)
    ends (d ∷ ds) (u ∷ us) left = absurd (none_same d (ds ++ walked_from at (u ∷ us)) left)

-- ---- the Schemas, Channels and Messages among them

flat_joined : (xs ys : List Placed) → flat_given (xs ++ ys) ≡ flat_given xs ++ flat_given ys
flat_joined xs ys = ap (filter is_flat_kind) (map-append (λ (p : Placed). p.top) xs ys) ∙ filter-append is_flat_kind (tops_of xs) (tops_of ys)

pub flat_last : (given : List Placed) (p : Placed) → flat_given (given ++ p ∷ []) ≡ flat_given given ++ filter is_flat_kind (p.top ∷ [])
flat_last given p = flat_joined given (p ∷ [])

one_flat : (at : ℕ) (t : Top) → flat_given (walked_one at t) ≡ flattened t
one_flat at t = by (is_chunk t) refl
  where
    by : (b : Bool) → is_chunk t ≡ b → filter is_flat_kind (t ∷ tops_of (cond b (placed_inside at 0 (inner_tops t)) [])) ≡ filter is_flat_kind (cond b (inner_tops t) (t ∷ []))
    by true six =
        let others = tops_of (placed_inside at 0 (inner_tops t)) in
        ap (λ (c : Bool). cond c (t ∷ filter is_flat_kind others) (filter is_flat_kind others)) (ap (λ (op : ℕ). is_flat_kind (top op t.content)) (eqb-true t.op 6 six))
        ∙ ap (filter is_flat_kind) (inside_tops at 0 (inner_tops t))
    by false other = refl

pub flat_walked : (at : ℕ) (tops : List Top) → flat_given (walked_from at tops) ≡ flat tops
flat_walked at [] = refl
flat_walked at (t ∷ ts) =
    let next = at + length (top_bytes t) in
    flat_joined (walked_one at t) (walked_from next ts) ∙ ap (λ (l : List Top). l ++ flat_given (walked_from next ts)) (one_flat at t) ∙ ap (λ (l : List Top). flattened t ++ l) (flat_walked next ts)

good_few : (tops : List Top) → Good reading_limits tops → length (flat tops) < 1099511627776
good_few [] good = omega arith
good_few (t ∷ ts) good =
    let (front, last, split) = last_of t ts in
    let fits = each_at (Fits reading_limits) front last [] (subst (Good reading_limits) split good) in
    let few = few_filtered is_flat_kind (unchunked last) in
    omega (arith, flat_few front last fits, few, ap length (ap flat split ∙ flat_more front last), length-append (flat front) (flattened last))

-- they are few
pub few_given : (given : List Placed) (p : Placed) (ahead : List Placed) (tops : List Top) → Good reading_limits tops → walked tops ≡ (given ++ p ∷ []) ++ ahead → length (flat_given given) + 1 < 2 ^ 64
few_given given p ahead tops good same =
    let all : flat tops ≡ flat_given given ++ flat_given (p ∷ ahead) = sym (flat_walked 8 tops) ∙ ap flat_given (same ∙ append_assoc given (p ∷ []) ahead) ∙ flat_joined given (p ∷ ahead) in
    omega (arith, ap length all, length-append (flat_given given) (flat_given (p ∷ ahead)), good_few tops good)
