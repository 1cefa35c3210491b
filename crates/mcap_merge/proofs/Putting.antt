-- The records of turns, put one after the other.
use Rattle.std.proofs.Common.{◌≡◌, ℕ, suc, ◌+◌, ◌<◌, true, false, List, [], ◌∷◌, ◌++◌, length, fold, Option, Some, None, refl, sym, ap, subst, ◌∙◌, inl, inr, Ok, Err, arith}
use Rattle.std.specs.List.{AllZip}
use Rattle.std.proofs.lemmas.List.{length-append}
use Rattle.rec_data.specs.declared.owned.Rec.{Rec}
use Rattle.rec_data.specs.declared.channel.ChannelDef.{ChannelDef}
use Rattle.rec_data.specs.Fields.{MessageFields}
use Rattle.rec_data.specs.Records.{ShowsMessage}
use Rattle.mcap_io.specs.Stores.{StoreState}
use Rattle.mcap_model.specs.declared.refusals.ReadingRefused.TheVariants as readings
use Rattle.mcap_model.specs.declared.ends.Stop.TheVariants as stops
use Rattle.mcap_model.specs.Places.{At, Has}
use Rattle.mcap_model.specs.Tops.{Top, flat}
use Rattle.mcap_model.specs.Declarations.{TablesOf}
use Rattle.mcap_model.specs.Merged.{IsContent}
use Rattle.mcap_model.proofs.Places.{at_one, at_within, has_kept}
use Rattle.mcap_model.proofs.Lists.{has_taken}
use Rattle.mcap_model.proofs.NamedTopics.{zip_back, unmapped}
use Rattle.mcap_model.proofs.Flat.{at_mapped}
use Rattle.mcap_model.proofs.OneMore.{zip_push}
use Rattle.merge_walk.specs.declared.turns.Turn.{Turn}
use Rattle.merge_walk.specs.declared.turns.WalkRefused.{WalkRefused}
use Rattle.merge_walk.specs.declared.turns.WalkRefused.TheVariants as walks
use Rattle.merge_walk.specs.declared.pieces.Piece.{Piece}
use Rattle.merge_walk.specs.declared.walk.Walk.{Walk}
use Rattle.merge_walk.specs.Cursors.{turn_of}
use Rattle.mcap_scan.specs.Heads.{heads_in}
use Rattle.merge_walk.specs.Pieces.{InputBytes}
use Rattle.merge_walk.specs.Stores.{StoresFit, StoresStay, LeavesStores, RefusedCounts, AskedWithin, none_left}
use Rattle.merge_walk.specs.Walks.{Text, turns_in, pieces_in, IsTextOf, IsMessageAt, IsWalkRefused, WalkStands, IsOfHeld, Advances}
use Rattle.merge_walk.proofs.Stayed.{leaves_on}
use Rattle.mcap_merge.specs.declared.answers.MergeRefused.{MergeRefused}
use Rattle.mcap_merge.specs.declared.input.Input.{Input}
use Rattle.mcap_merge.specs.declared.joining.Joiner.{Joiner}
use Rattle.mcap_merge.specs.Inputs.{HoldsInput, HoldInputs}
use Rattle.mcap_merge.specs.ReadInputs.{Read, read_tops}
use Rattle.mcap_merge.specs.Uses.{Use, added_by, with_use, history_of}
use Rattle.mcap_merge.specs.Contents.{IdsSuffice}
use Rattle.mcap_merge.specs.Joining.{JoinerStands}
use Rattle.mcap_merge.specs.Writing.{put_on_channel, ComesNext}
use Rattle.mcap_merge.specs.Turns.{IsNoMessageOn, IsUseOfTurn, UsesOf, sources, PutSoFar, PutAll, PutSome, IsChanged, IsWalkRefusal, WhyNotAll, stop_of, PutCounts}
use Rattle.mcap_merge.proofs.Contents.{content_once}
use Rattle.mcap_merge.proofs.Marking.{channel_shown}
use Rattle.mcap_merge.proofs.Merging.{zip_weaker}
use Rattle.mcap_merge.proofs.Sources.{sent, message_from}

-- ---- which input a turn is of

pub turn_input : (x : Text) (t : Turn) → Has (turns_in x) t → x.piece.input ≡ t.input
turn_input x t has =
    let (e, at, same) = unmapped (turn_of x.piece) (heads_in x.bytes) has.0 t has.1 in
    ap (λ (u : Turn). u.input) same

pub input_there : (files : InputBytes) (stores : List StoreState) (w : Walk) (texts : List Text) (given : List Turn) (t : Turn) (count : ℕ) → WalkStands files w texts given → IsOfHeld w texts t → StoresFit stores w.pieces.items → length stores ≡ count → t.input < count
input_there files stores w texts given t count stands held fit size =
    let x = held.text in
    let (p, at_p, is) = zip_back (IsTextOf files) _ texts held.among.0 x stands.taken held.among.1 in
    let there = (has_taken w.pieces.items w.next held.among.0 p at_p).1 in
    let (s, at_s, within) = fit held.among.0 p there in
    let same : p.input ≡ t.input = sym (ap (λ (q : Piece). q.input) is.piece) ∙ turn_input x t held.has in
    omega (arith, size, same, at_within stores p.input s at_s)

pub turn_given : (files theirs : InputBytes) (w after : Walk) (t : Turn) (next : Option Turn) (texts : List Text) (given : List Turn) → theirs ≡ files → next ≡ Some t → Advances theirs w after next → WalkStands files w texts given
    → (more : List Text) × WalkStands files after (texts ++ more) (given ++ t ∷ []) × IsOfHeld after (texts ++ more) t × (after.pieces ≡ w.pieces)
turn_given files theirs w after t next texts given is same advances stands =
    let a : Advances files w after (Some t) = subst (λ (n : Option Turn). Advances files w after n) same (subst (λ (f : InputBytes). Advances f w after next) is advances) in
    let steps = a.stands in
    let (more, (now, held)) = steps texts given stands in
    (more, now, held, a.pieces)

pub none_given : (files theirs : InputBytes) (w after : Walk) (next : Option Turn) → theirs ≡ files → next ≡ None → Advances theirs w after next → Advances files w after None
none_given files theirs w after next is same advances = subst (λ (n : Option Turn). Advances files w after n) same (subst (λ (f : InputBytes). Advances f w after next) is advances)

pub store_count : (olds nows : List StoreState) → StoresStay olds nows → length nows ≡ length olds
store_count [] [] stay = refl
store_count [] (y ∷ ys) stay = absurd stay
store_count (x ∷ xs) [] stay = absurd stay
store_count (x ∷ xs) (y ∷ ys) stay = ap suc (store_count xs ys stay.1)

pub no_message : (input : Input) (content : List ℕ) (channel : ℕ) (m : MessageFields) → ShowsMessage content channel m → At input.used.items channel false → IsNoMessageOn input content
no_message input content channel m shows unmarked = λ other n shown marked.
    let same : other ≡ channel = sym (channel_shown content other n shown) ∙ channel_shown content channel m shows in
    true_false (at_one input.used.items channel true false (subst (λ (k : ℕ). At input.used.items k true) same marked) unmarked)
  where
    true_false : true ≡ false → ⊥
    true_false e = cc

-- ---- the use of a turn

pub record TurnUse (reads : List Read) (texts : List Text) (t : Turn) (input : Input) (channel : ℕ) (m : MessageFields) : Type 0 where
  pub used : Use
  pub is : IsUseOfTurn (read_tops reads) texts t used
  pub message : used.message ≡ m
  pub tops : List Top
  pub at : At (read_tops reads) t.input tops
  pub tables_are : TablesOf (flat tops) input.tables
  pub content : (d : ChannelDef) → IsContent (flat tops) channel d → d ≡ used.content

pub turn_use : (reads : List Read) (inputs : List Input) (texts : List Text) (t : Turn) (input : Input) (channel : ℕ) (m : MessageFields) (x : Text) (top : Top) → HoldInputs reads inputs → IdsSuffice (read_tops reads) → At inputs t.input input → At input.used.items channel true
    → Has texts x → Has (turns_in x) t → IsMessageAt x t top → ShowsMessage top.content channel m → TurnUse reads texts t input channel m
turn_use reads inputs texts t input channel m x top hold suffice here marked among has there shows =
    let (r, at, holds) = zip_back HoldsInput reads inputs t.input input hold here in
    let are = holds.used_are.are in
    let (s, has_s, on) = are channel marked in
    let from = message_from reads t.input r s at holds.scan has_s in
    let contents = suffice.contents in
    let (d, content) = contents (sent t.input s) from in
    let at_tops : At (read_tops reads) t.input r.tops = at_mapped (λ (y : Read). y.tops) reads t.input r at in
    let same : content.tops ≡ r.tops = at_one (read_tops reads) t.input content.tops r.tops content.at at_tops in
    let is_d : IsContent (flat r.tops) channel d = subst (λ (n : ℕ). IsContent (flat r.tops) n d) on (subst (λ (l : List Top). IsContent (flat l) s.channel d) same content.is) in
    record {
      used = record { content = d; message = m };
      is = record {
        text = x;
        among = among;
        has = has;
        top = top;
        there = there;
        channel = channel;
        shows = shows;
        sent = sent t.input s;
        input = refl;
        on = on;
        from = from;
        content = content;
      };
      message = refl;
      tops = r.tops;
      at = at_tops;
      tables_are = holds.tables_are;
      content = λ e is_e. content_once (flat r.tops) input.tables channel e d holds.tables_are is_e is_d;
    }

-- the uses stay where more is loaded
use_kept : (all : List (List Top)) (texts more : List Text) (t : Turn) (u : Use) → IsUseOfTurn all texts t u → IsUseOfTurn all (texts ++ more) t u
use_kept all texts more t u is = record {
  text = is.text;
  among = has_kept texts more is.text is.among;
  has = is.has;
  top = is.top;
  there = is.there;
  channel = is.channel;
  shows = is.shows;
  sent = is.sent;
  input = is.input;
  on = is.on;
  from = is.from;
  content = is.content;
}

pub uses_kept : (all : List (List Top)) (texts more : List Text) (given : List Turn) (uses : List Use) → AllZip (IsUseOfTurn all texts) given uses → AllZip (IsUseOfTurn all (texts ++ more)) given uses
uses_kept all texts more given uses zip = zip_weaker (IsUseOfTurn all texts) (IsUseOfTurn all (texts ++ more)) given uses (λ t u is. use_kept all texts more t u is) zip

pub history_more : (uses : List Use) (u : Use) → history_of (uses ++ u ∷ []) ≡ with_use (history_of uses) u
history_more uses u = last [] uses
  where
    last : (h : List Rec) (us : List Use) → fold with_use h (us ++ u ∷ []) ≡ with_use (fold with_use h us) u
    last h [] = refl
    last h (v ∷ vs) = last (with_use h v) vs

-- ---- one turn more

module _ {P : Type 0} (adds : P → P → List Top → List Rec → Type 0) (adds_on : (p q r : P) (extras others : List Top) (records behind : List Rec) → adds p q extras records → adds q r others behind → adds p r (extras ++ others) (records ++ behind)) where
  -- the walk gave it, and it was put or the pen stopped at it
  pub uses_more : (inputs : List Input) (texts more : List Text) (given : List Turn) (t : Turn) (input : Input) (channel : ℕ) (m : MessageFields) (x : Text) (top : Top) (j : Joiner) (old mid new : P)
      → UsesOf inputs texts given (λ all uses. JoinerStands all (history_of uses) j × adds old mid [] (history_of uses)) → At inputs t.input input → At input.used.items channel true → Has (texts ++ more) x → Has (turns_in x) t → IsMessageAt x t top → ShowsMessage top.content channel m
      → ((all : List (List Top)) (history : List Rec) (u : Use) → ComesNext all history j input t.input (put_on_channel channel m) u → adds mid new [] (added_by history u))
      → UsesOf inputs (texts ++ more) (given ++ t ∷ []) (λ all uses. (h : List Rec) × (u : Use) × (history_of uses ≡ with_use h u) × ComesNext all h j input t.input (put_on_channel channel m) u × adds old new [] (history_of uses))
  uses_more inputs texts more given t input channel m x top j old mid new was here marked among has there shows puts = λ reads hold suffice.
      let (uses, zip, (stands, added)) = was reads hold suffice in
      let one = turn_use reads inputs (texts ++ more) t input channel m x top hold suffice here marked among has there shows in
      let u = one.used in
      let h = history_of uses in
      let next : ComesNext (read_tops reads) h j input t.input (put_on_channel channel m) u = record { stands = stands; tops = one.tops; at = one.at; tables_are = one.tables_are; content = one.content; message = one.message } in
      let grown : history_of (uses ++ u ∷ []) ≡ with_use h u = history_more uses u in
      let now : adds old new [] (with_use h u) = adds_on old mid new [] [] h (added_by h u) added (puts (read_tops reads) h u next) in (
        uses ++ u ∷ [],
        zip_push (IsUseOfTurn (read_tops reads) (texts ++ more)) given uses t u (uses_kept (read_tops reads) texts more given uses zip) one.is,
        (h, u, grown, next, subst (adds old new []) (sym grown) now),
      )

  pub put_more : (files : InputBytes) (inputs : List Input) (w after : Walk) (count : ℕ) (t : Turn) (input : Input) (channel : ℕ) (m : MessageFields) (x : Text) (top : Top) (j k : Joiner) (old mid new : P) (was : PutSoFar adds (sources files inputs) w count j old mid) (more : List Text)
      → WalkStands files after (was.texts ++ more) (was.given ++ t ∷ []) → At inputs t.input input → At input.used.items channel true → Has (was.texts ++ more) x → Has (turns_in x) t → IsMessageAt x t top → ShowsMessage top.content channel m
      → ((all : List (List Top)) (history : List Rec) (u : Use) → ComesNext all history j input t.input (put_on_channel channel m) u → adds mid new [] (added_by history u))
      → ((all : List (List Top)) (history : List Rec) (u : Use) → ComesNext all history j input t.input (put_on_channel channel m) u → JoinerStands all (with_use history u) k)
      → PutSoFar adds (sources files inputs) after (count + 1) k old new
  put_more files inputs w after count t input channel m x top j k old mid new was more stands here marked among has there shows puts joins =
      let uses = uses_more inputs was.texts more was.given t input channel m x top j old mid new was.uses here marked among has there shows puts in
      record {
        texts = was.texts ++ more;
        given = was.given ++ t ∷ [];
        stands = stands;
        size = let size = length-append was.given (t ∷ []) in omega (arith, size, was.size);
        uses = λ reads hold suffice.
            let (us, zip, (h, u, grown, next, added)) = uses reads hold suffice in
            (us, zip, (subst (λ (l : List Rec). JoinerStands (read_tops reads) l k) (sym grown) (joins (read_tops reads) h u next), added));
      }

  pub stopped_at : (files : InputBytes) (inputs : List Input) (start w after : Walk) (count : ℕ) (t : Turn) (input : Input) (channel : ℕ) (m : MessageFields) (x : Text) (top : Top) (j : Joiner) (old mid new : P) (was : PutSoFar adds (sources files inputs) w count j old mid) (more : List Text)
      → after.pieces ≡ start.pieces → WalkStands files after (was.texts ++ more) (was.given ++ t ∷ []) → At inputs t.input input → At input.used.items channel true → Has (was.texts ++ more) x → Has (turns_in x) t → IsMessageAt x t top → ShowsMessage top.content channel m
      → ((all : List (List Top)) (history : List Rec) (u : Use) → ComesNext all history j input t.input (put_on_channel channel m) u → adds mid new [] (added_by history u))
      → ((records : List Rec) → adds new new [] records)
      → PutSome adds files inputs start old new
  stopped_at files inputs start w after count t input channel m x top j old mid new was more same stands here marked among has there shows puts stays =
      let uses = uses_more inputs was.texts more was.given t input channel m x top j old mid new was.uses here marked among has there shows puts in
      record {
        walk = after;
        pieces = same;
        texts = was.texts ++ more;
        given = was.given ++ t ∷ [];
        stands = stands;
        uses = λ reads hold suffice.
            let (us, zip, (h, u, grown, next, added)) = uses reads hold suffice in
            (us, zip, λ others. adds_on old new new [] [] (history_of us) others added (stays others));
      }

  -- the pen stopped before the next turn
  pub stopped_before : (files : InputBytes) (inputs : List Input) (start w : Walk) (count : ℕ) (j : Joiner) (old mid new : P) → PutSoFar adds (sources files inputs) w count j old mid → w.pieces ≡ start.pieces → ((records : List Rec) → adds mid new [] records) → PutSome adds files inputs start old new
  stopped_before files inputs start w count j old mid new was same stays = record {
    walk = w;
    pieces = same;
    texts = was.texts;
    given = was.given;
    stands = was.stands;
    uses = λ reads hold suffice.
        let put = was.uses in
        let (us, zip, (stands, added)) = put reads hold suffice in
        (us, zip, λ others. adds_on old mid new [] [] (history_of us) others added (stays others));
  }

  -- no turn is left
  pub put_all : (files : InputBytes) (inputs : List Input) (w after : Walk) (count : ℕ) (j : Joiner) (old now : P) → PutSoFar adds (sources files inputs) w count j old now → Advances files w after None → PutAll adds (sources files inputs) after count j old now
  put_all files inputs w after count j old now was advances =
      let steps = advances.stands in
      let (more, (stands, all, loaded)) = steps was.texts was.given was.stands in
      record {
        put = record {
          texts = was.texts ++ more;
          given = was.given;
          stands = stands;
          size = was.size;
          uses = λ reads hold suffice.
              let put = was.uses in
              let (us, zip, (joined, added)) = put reads hold suffice in
              (us, uses_kept (read_tops reads) was.texts more was.given us zip, (joined, added));
        };
        all = all;
        loaded = loaded;
      }

-- ---- what became of the stores

-- one call more went well
pub leaves_more : {X : Type 0} (a b c : List StoreState) (start mid new : Walk) (done : Unit {0}) (it : X) → LeavesStores a b start mid (Ok done) → LeavesStores b c mid new (Ok it) → LeavesStores a c start new (Ok done)
leaves_more a b c start mid new done it one other =
    let all = leaves_on a b c start mid new done (Ok it) one other in
    record { stay = all.stay; counts = all.counts; asked = all.asked }

-- what may still be asked for is left out
pub asked_in_all : (a b : List StoreState) (f g : ℕ → ℕ) → AskedWithin a b f g → AskedWithin a b f none_left
asked_in_all a b f g within k old new at_old at_new =
    let all = within k old new at_old at_new in
    omega (arith, all)

-- ---- why not all was put

-- the walk is refused
pub why_refused : (files theirs : InputBytes) (start w : Walk) (inputs : List Input) (why : WalkRefused) (answer : MergeRefused) → theirs ≡ files → w.pieces ≡ start.pieces → IsWalkRefused theirs w why → IsWalkRefusal why answer → WhyNotAll files start inputs answer
why_refused files theirs start w inputs (walks.Changed input offset) answer is same refused so =
    subst (WhyNotAll files start inputs) (sym so) (inl (w, ap (λ v. v.items) same, subst (λ (f : InputBytes). IsWalkRefused f w (walks.Changed input offset)) is refused))
why_refused files theirs start w inputs (walks.Refused input (readings.Fault faults)) answer is same refused so = subst (WhyNotAll files start inputs) (sym so) tt
why_refused files theirs start w inputs (walks.Refused input (readings.Grammar offset rule)) answer is same refused so = subst (WhyNotAll files start inputs) (sym so) tt
why_refused files theirs start w inputs (walks.Refused input (readings.Compressed offset name)) answer is same refused so = subst (WhyNotAll files start inputs) (sym so) tt
why_refused files theirs start w inputs (walks.Refused input (readings.Limit offset)) answer is same refused so = subst (WhyNotAll files start inputs) (sym so) tt
why_refused files theirs start w inputs (walks.Refused input readings.Memory) answer is same refused so = subst (WhyNotAll files start inputs) (sym so) tt

pub counts_refused : (X : Type 0) (olds news : List StoreState) (before now : ℕ) (why : WalkRefused) (answer : MergeRefused) → RefusedCounts olds news why → now ≡ before → IsWalkRefusal why answer → PutCounts {X = X} olds news before now (Err answer)
counts_refused X olds news before now (walks.Changed input offset) answer counts still so = subst (λ (r : MergeRefused). PutCounts {X = X} olds news before now (Err r)) (sym so) (counts, still)
counts_refused X olds news before now (walks.Refused input (readings.Fault faults)) answer counts still so = subst (λ (r : MergeRefused). PutCounts {X = X} olds news before now (Err r)) (sym so) (counts, still)
counts_refused X olds news before now (walks.Refused input (readings.Grammar offset rule)) answer counts still so = absurd counts
counts_refused X olds news before now (walks.Refused input (readings.Compressed offset name)) answer counts still so = absurd counts
counts_refused X olds news before now (walks.Refused input (readings.Limit offset)) answer counts still so = absurd counts
counts_refused X olds news before now (walks.Refused input readings.Memory) answer counts still so = subst (λ (r : MergeRefused). PutCounts {X = X} olds news before now (Err r)) (sym so) (counts, still)

pub stop_refused : (why : WalkRefused) (answer : MergeRefused) → IsWalkRefusal why answer → stop_of answer ≡ stops.Memory
stop_refused (walks.Changed input offset) answer so = ap stop_of so
stop_refused (walks.Refused input (readings.Fault faults)) answer so = ap stop_of so
stop_refused (walks.Refused input (readings.Grammar offset rule)) answer so = ap stop_of so
stop_refused (walks.Refused input (readings.Compressed offset name)) answer so = ap stop_of so
stop_refused (walks.Refused input (readings.Limit offset)) answer so = ap stop_of so
stop_refused (walks.Refused input readings.Memory) answer so = ap stop_of so

-- the record of a turn is no message that may be put
pub why_other : (files : InputBytes) (start after : Walk) (inputs : List Input) (texts : List Text) (given : List Turn) (t : Turn) (input : Input) (top : Top) → WalkStands files after texts given → (held : IsOfHeld after texts t) → after.pieces ≡ start.pieces → At inputs t.input input → IsMessageAt held.text t top
    → IsNoMessageOn input top.content → IsChanged files start inputs t.input t.offset
why_other files start after inputs texts given t input top stands held same here there none =
    let x = held.text in
    let (p, at_p, is) = zip_back (IsTextOf files) _ texts held.among.0 x stands.taken held.among.1 in
    let within : At after.pieces.items held.among.0 p = (has_taken after.pieces.items after.next held.among.0 p at_p).1 in
    let among : Has (pieces_in start) p = (held.among.0, subst (λ v. At v.items held.among.0 p) same within) in
    let own = sym is.piece in
    inr (record {
      text = x;
      among = subst (Has (pieces_in start)) own among;
      of = subst (λ (q : Piece). IsTextOf files q x) own is;
      turn = t;
      has = held.has;
      top = top;
      there = there;
      held = input;
      at = here;
      none = none;
      input_is = refl;
      offset_is = refl;
    })
