-- The messages that the walk gives were put.
use Rattle.std.proofs.Common.{◌≡◌, ◌∙◌, ℕ, ◌<◌, [], ◌∷◌, ◌++◌, length, map, refl, sym, ap, subst, Ok, Err, arith}
use Rattle.std.proofs.lemmas.List.{length-map}
use Rattle.mcap_io.specs.Stores.{StoreState}
use Rattle.rec_data.specs.Parsed.{message_fields}
use Rattle.mcap_model.specs.declared.ends.Stop.{Stop}
use Rattle.mcap_model.specs.declared.ends.Stop.TheVariants as stops
use Rattle.mcap_model.specs.Places.{At}
use Rattle.mcap_model.specs.Walk.{inner_top}
use Rattle.chunk_writer.specs.declared.phase.Phase.TheVariants as phases
use Rattle.chunk_writer.specs.Stops.{StopCause}
use Rattle.merge_walk.specs.Pieces.{InputBytes}
use Rattle.merge_walk.specs.Stores.{files_of, StoresFit, unasked}
use Rattle.merge_walk.specs.Walks.{WalkStands}
use Rattle.merge_walk.proofs.Stayed.{stay_on, fit_on, files_stay, leaves_so, leaves_on}
use Rattle.mcap_merge.proofs.Putting.{turn_given, none_given, store_count, input_there, leaves_more, asked_in_all, why_refused, counts_refused, stop_refused, why_other}
use Rattle.mcap_sort.specs.Turns.{only}
use Rattle.mcap_sort.proofs.Turned.{IsGiven, put_begins, put_more, put_all, stopped_at, stopped_before, only_here, message_v6}
use Rattle.mcap_sort.proofs.turns.put_turns.Goals as goal

pub turns-init : goal.turns-init
turns-init g c =
    let state : g.row.T.Denot → StoreState = λ s. g.T.Store.state s in
    (put_begins g.L.LiveStore.state (files_of (map state c.args.stores.now.items)) c.args.gathered.now c.args.walk.now c.args.k.now c.requires.begun, refl, c.requires.fits, leaves_so (map state c.args.stores.now.items) c.args.walk.now c.args.walk.now tt refl refl, c.requires.going, refl)

pub advance-requires-clause-stands : goal.advance-requires-clause-stands
advance-requires-clause-stands g c =
    let state : g.row.T.Denot → StoreState = λ s. g.T.Store.state s in
    let seen = g.L.LiveStore.state in
    let gathered = c.args.gathered.now in
    let olds = map state c.args.stores.now.items in
    let nows = map state c.turns.stores.items in
    let files = files_of olds in
    let was = c.turns.invariant.0 in
    let is = files_stay olds nows c.turns.invariant.3.stay in
    (was.texts, was.given, subst (λ (f : InputBytes). WalkStands f c.turns.walk was.texts was.given) (sym is) was.stands)

pub returns-in-Ok-None-clause-all : goal.returns-in-Ok-None-clause-all
returns-in-Ok-None-clause-all g c =
    let state : g.row.T.Denot → StoreState = λ s. g.T.Store.state s in
    let seen = g.L.LiveStore.state in
    let gathered = c.args.gathered.now in
    let olds = map state c.args.stores.now.items in
    let nows = map state c.turns.stores.items in
    let files = files_of olds in
    let was = c.turns.invariant.0 in
    let is = files_stay olds nows c.turns.invariant.3.stay in
    put_all seen files gathered c.args.walk.now c.turns.walk c.advance.new.self c.args.k.now c.turns.k was c.turns.invariant.1
    (none_given files (files_of nows) c.turns.walk c.advance.new.self c.in-Ok-None.field-0 is c.in-Ok-None.field-0-is c.in-Ok-None.ensures.advances)

pub returns-in-Ok-None-clause-stay : goal.returns-in-Ok-None-clause-stay
returns-in-Ok-None-clause-stay g c =
    let state : g.row.T.Denot → StoreState = λ s. g.T.Store.state s in
    stay_on (map state c.args.stores.now.items) (map state c.turns.stores.items) (map state c.advance.new.stores.items) c.turns.invariant.3.stay c.in-Ok-None.ensures.stores.stay

pub returns-in-Err-clause-stay : goal.returns-in-Err-clause-stay
returns-in-Err-clause-stay g c =
    let state : g.row.T.Denot → StoreState = λ s. g.T.Store.state s in
    stay_on (map state c.args.stores.now.items) (map state c.turns.stores.items) (map state c.advance.new.stores.items) c.turns.invariant.3.stay c.in-Err.ensures.stores.stay

pub returns-in-None-clause-stay : goal.returns-in-None-clause-stay
returns-in-None-clause-stay g c =
    let state : g.row.T.Denot → StoreState = λ s. g.T.Store.state s in
    stay_on (map state c.args.stores.now.items) (map state c.turns.stores.items) (map state c.advance.new.stores.items) c.turns.invariant.3.stay c.in-Ok-Some.ensures.stores.stay

pub returns-in-Err-put_message-clause-stay : goal.returns-in-Err-put_message-clause-stay
returns-in-Err-put_message-clause-stay g c =
    let state : g.row.T.Denot → StoreState = λ s. g.T.Store.state s in
    stay_on (map state c.args.stores.now.items) (map state c.turns.stores.items) (map state c.advance.new.stores.items) c.turns.invariant.3.stay c.in-Ok-Some.ensures.stores.stay

pub returns-in-Err-clause-some : goal.returns-in-Err-clause-some
returns-in-Err-clause-some g c =
    let state : g.row.T.Denot → StoreState = λ s. g.T.Store.state s in
    let seen = g.L.LiveStore.state in
    let gathered = c.args.gathered.now in
    let olds = map state c.args.stores.now.items in
    let nows = map state c.turns.stores.items in
    let files = files_of olds in
    let was = c.turns.invariant.0 in
    let is = files_stay olds nows c.turns.invariant.3.stay in
    stopped_before seen files gathered c.args.walk.now c.turns.walk c.args.k.now c.turns.k _ stops.Memory was c.turns.invariant.1 c.stop_for_memory-stop.ensures.gathers c.stop_for_memory-stop.ensures.stopped.phase

pub message-record-requires : goal.message-record-requires
message-record-requires g c =
    let state : g.row.T.Denot → StoreState = λ s. g.T.Store.state s in
    let seen = g.L.LiveStore.state in
    let gathered = c.args.gathered.now in
    let olds = map state c.args.stores.now.items in
    let nows = map state c.turns.stores.items in
    let files = files_of olds in
    let was = c.turns.invariant.0 in
    let is = files_stay olds nows c.turns.invariant.3.stay in
    let t = c.in-Ok-Some.turn in
    let (more, stands, held, same) = turn_given files (files_of nows) c.turns.walk c.advance.new.self t c.in-Ok-Some.field-0 was.texts was.given is c.in-Ok-Some.field-0-is c.in-Ok-Some.ensures.advances was.stands in
    (held.text, held.held, held.has)

pub message_in-requires : goal.message_in-requires
message_in-requires g c =
    let state : g.row.T.Denot → StoreState = λ s. g.T.Store.state s in
    let seen = g.L.LiveStore.state in
    let gathered = c.args.gathered.now in
    let olds = map state c.args.stores.now.items in
    let nows = map state c.turns.stores.items in
    let files = files_of olds in
    let was = c.turns.invariant.0 in
    let is = files_stay olds nows c.turns.invariant.3.stay in
    let (r, holds) = c.requires.held in
    holds.used_are.size

pub returns-in-None-clause-some : goal.returns-in-None-clause-some
returns-in-None-clause-some g c =
    let state : g.row.T.Denot → StoreState = λ s. g.T.Store.state s in
    let seen = g.L.LiveStore.state in
    let gathered = c.args.gathered.now in
    let olds = map state c.args.stores.now.items in
    let nows = map state c.turns.stores.items in
    let files = files_of olds in
    let was = c.turns.invariant.0 in
    let is = files_stay olds nows c.turns.invariant.3.stay in
    stopped_before seen files gathered c.args.walk.now c.turns.walk c.args.k.now c.turns.k _ stops.Memory was c.turns.invariant.1 c.stop_for_memory-stop-in-None.ensures.gathers c.stop_for_memory-stop-in-None.ensures.stopped.phase

pub put_message-requires-clause-v6 : goal.put_message-requires-clause-v6
put_message-requires-clause-v6 g c =
    let state : g.row.T.Denot → StoreState = λ s. g.T.Store.state s in
    let seen = g.L.LiveStore.state in
    let gathered = c.args.gathered.now in
    let olds = map state c.args.stores.now.items in
    let nows = map state c.turns.stores.items in
    let files = files_of olds in
    let was = c.turns.invariant.0 in
    let is = files_stay olds nows c.turns.invariant.3.stay in
    let t = c.in-Ok-Some.turn in
    let (more, stands, held, same) = turn_given files (files_of nows) c.turns.walk c.advance.new.self t c.in-Ok-Some.field-0 was.texts was.given is c.in-Ok-Some.field-0-is c.in-Ok-Some.ensures.advances was.stands in
    let message = c.in-Some.message in
    let m = message_fields message in
    let there = c.message-record.ensures.message held.text held.held held.has in
    let (shows, marked) = c.in-Some.ensures in
    let given : IsGiven gathered (was.texts ++ more) t message.channel_id m = record { text = held.text; among = held.among; has = held.has; top = inner_top c.message-record.result; there = there; shows = shows; used = marked } in
    message_v6 c.message-record.result.content.now message.channel_id m shows

pub returns-in-Err-put_message-clause-some : goal.returns-in-Err-put_message-clause-some
returns-in-Err-put_message-clause-some g c =
    let state : g.row.T.Denot → StoreState = λ s. g.T.Store.state s in
    let seen = g.L.LiveStore.state in
    let gathered = c.args.gathered.now in
    let olds = map state c.args.stores.now.items in
    let nows = map state c.turns.stores.items in
    let files = files_of olds in
    let was = c.turns.invariant.0 in
    let is = files_stay olds nows c.turns.invariant.3.stay in
    let t = c.in-Ok-Some.turn in
    let (more, stands, held, same) = turn_given files (files_of nows) c.turns.walk c.advance.new.self t c.in-Ok-Some.field-0 was.texts was.given is c.in-Ok-Some.field-0-is c.in-Ok-Some.ensures.advances was.stands in
    let message = c.in-Some.message in
    let m = message_fields message in
    let there = c.message-record.ensures.message held.text held.held held.has in
    let (shows, marked) = c.in-Some.ensures in
    let given : IsGiven gathered (was.texts ++ more) t message.channel_id m = record { text = held.text; among = held.among; has = held.has; top = inner_top c.message-record.result; there = there; shows = shows; used = marked } in
    stopped_at seen files gathered c.args.walk.now c.turns.walk c.advance.new.self c.args.k.now c.turns.k c.put_message.new.k was more t message.channel_id m c.in-Err-put_message.stop (same ∙ c.turns.invariant.1) stands given c.in-Err-put_message.ensures.takes c.in-Err-put_message.ensures.stopped

pub turns-preserved : goal.turns-preserved
turns-preserved g c =
    let state : g.row.T.Denot → StoreState = λ s. g.T.Store.state s in
    let seen = g.L.LiveStore.state in
    let gathered = c.args.gathered.now in
    let olds = map state c.args.stores.now.items in
    let nows = map state c.turns.stores.items in
    let files = files_of olds in
    let was = c.turns.invariant.0 in
    let is = files_stay olds nows c.turns.invariant.3.stay in
    let t = c.in-Ok-Some.turn in
    let (more, stands, held, same) = turn_given files (files_of nows) c.turns.walk c.advance.new.self t c.in-Ok-Some.field-0 was.texts was.given is c.in-Ok-Some.field-0-is c.in-Ok-Some.ensures.advances was.stands in
    let fit : StoresFit nows c.advance.new.self.pieces.items = subst (λ v. StoresFit nows v.items) (sym same) c.turns.invariant.2 in
    let count : length nows ≡ 1 = store_count olds nows c.turns.invariant.3.stay ∙ length-map c.args.stores.now.items state ∙ c.requires.one in
    let within : t.input < 1 = input_there files nows c.advance.new.self (was.texts ++ more) (was.given ++ t ∷ []) t 1 stands held fit count in
    let here : At (only gathered) t.input gathered.input = only_here gathered t.input within in
    let message = c.in-Some.message in
    let m = message_fields message in
    let there = c.message-record.ensures.message held.text held.held held.has in
    let (shows, marked) = c.in-Some.ensures in
    let given : IsGiven gathered (was.texts ++ more) t message.channel_id m = record { text = held.text; among = held.among; has = held.has; top = inner_top c.message-record.result; there = there; shows = shows; used = marked } in
    let news = map state c.advance.new.stores.items in
    let stay = c.in-Ok-Some.ensures.stores.stay in (
      put_more seen files gathered c.turns.walk c.advance.new.self c.args.k.now c.turns.k c.put_message.new.k was more t message.channel_id m stands given c.in-Ok.ensures.takes,
      same ∙ c.turns.invariant.1,
      fit_on nows news c.advance.new.self.pieces.items fit stay,
      leaves_more olds nows news c.args.walk.now c.turns.walk c.advance.new.self tt c.in-Ok-Some.field-0 c.turns.invariant.3 c.in-Ok-Some.ensures.stores,
      c.in-Ok.ensures.goes_on,
      c.in-Ok.ensures.cause ∙ c.turns.invariant.5,
    )

pub returns-clause-some : goal.returns-clause-some
returns-clause-some g c =
    let state : g.row.T.Denot → StoreState = λ s. g.T.Store.state s in
    let seen = g.L.LiveStore.state in
    let gathered = c.args.gathered.now in
    let olds = map state c.args.stores.now.items in
    let nows = map state c.turns.stores.items in
    let files = files_of olds in
    let was = c.turns.invariant.0 in
    let is = files_stay olds nows c.turns.invariant.3.stay in
    stopped_before seen files gathered c.args.walk.now c.turns.walk c.args.k.now c.turns.k _ stops.Memory was c.turns.invariant.1 c.stop_for_memory.ensures.gathers c.stop_for_memory.ensures.stopped.phase

pub returns-in-None-clause-why : goal.returns-in-None-clause-why
returns-in-None-clause-why g c =
    let state : g.row.T.Denot → StoreState = λ s. g.T.Store.state s in
    let seen = g.L.LiveStore.state in
    let gathered = c.args.gathered.now in
    let olds = map state c.args.stores.now.items in
    let nows = map state c.turns.stores.items in
    let files = files_of olds in
    let was = c.turns.invariant.0 in
    let is = files_stay olds nows c.turns.invariant.3.stay in
    let t = c.in-Ok-Some.turn in
    let (more, stands, held, same) = turn_given files (files_of nows) c.turns.walk c.advance.new.self t c.in-Ok-Some.field-0 was.texts was.given is c.in-Ok-Some.field-0-is c.in-Ok-Some.ensures.advances was.stands in
    let fit : StoresFit nows c.advance.new.self.pieces.items = subst (λ v. StoresFit nows v.items) (sym same) c.turns.invariant.2 in
    let count : length nows ≡ 1 = store_count olds nows c.turns.invariant.3.stay ∙ length-map c.args.stores.now.items state ∙ c.requires.one in
    let within : t.input < 1 = input_there files nows c.advance.new.self (was.texts ++ more) (was.given ++ t ∷ []) t 1 stands held fit count in
    let here : At (only gathered) t.input gathered.input = only_here gathered t.input within in
    let there = c.message-record.ensures.message held.text held.held held.has in
    why_other files c.args.walk.now c.advance.new.self (only gathered) (was.texts ++ more) (was.given ++ t ∷ []) t gathered.input (inner_top c.message-record.result) stands held (same ∙ c.turns.invariant.1) here there c.in-None.ensures

pub returns-in-Err-clause-why : goal.returns-in-Err-clause-why
returns-in-Err-clause-why g c =
    let state : g.row.T.Denot → StoreState = λ s. g.T.Store.state s in
    let olds = map state c.args.stores.now.items in
    let nows = map state c.turns.stores.items in
    let news = map state c.advance.new.stores.items in
    let is = files_stay olds nows c.turns.invariant.3.stay in
    why_refused (files_of olds) (files_of nows) c.args.walk.now c.turns.walk (only c.args.gathered.now) c.in-Err.why c.refusal_of.result is c.turns.invariant.1 c.in-Err.ensures.advances c.refusal_of.ensures

pub returns-in-Err-clause-counts : goal.returns-in-Err-clause-counts
returns-in-Err-clause-counts g c =
    let state : g.row.T.Denot → StoreState = λ s. g.T.Store.state s in
    let olds = map state c.args.stores.now.items in
    let nows = map state c.turns.stores.items in
    let news = map state c.advance.new.stores.items in
    let all = leaves_on olds nows news c.args.walk.now c.turns.walk c.advance.new.self tt (Err c.in-Err.why) c.turns.invariant.3 c.in-Err.ensures.stores in
    counts_refused (Unit {0}) olds news _ _ c.in-Err.why c.refusal_of.result all.counts (ap (λ l. (g.L.LiveStore.state l).faults) c.stop_for_memory-stop.ensures.store ∙ c.turns.invariant.5) c.refusal_of.ensures

pub returns-in-Err-clause-stopped : goal.returns-in-Err-clause-stopped
returns-in-Err-clause-stopped g c =
    c.stop_for_memory-stop.ensures.stopped.phase ∙ ap (λ (w : Stop). phases.Stopped w) (sym (stop_refused c.in-Err.why c.refusal_of.result c.refusal_of.ensures))

pub returns-in-Err-clause-asked : goal.returns-in-Err-clause-asked
returns-in-Err-clause-asked g c =
    let state : g.row.T.Denot → StoreState = λ s. g.T.Store.state s in
    let olds = map state c.args.stores.now.items in
    let nows = map state c.turns.stores.items in
    let news = map state c.advance.new.stores.items in
    let all = leaves_on olds nows news c.args.walk.now c.turns.walk c.advance.new.self tt (Err c.in-Err.why) c.turns.invariant.3 c.in-Err.ensures.stores in
    all.asked

pub returns-in-None-clause-counts : goal.returns-in-None-clause-counts
returns-in-None-clause-counts g c =
    let state : g.row.T.Denot → StoreState = λ s. g.T.Store.state s in
    let olds = map state c.args.stores.now.items in
    let nows = map state c.turns.stores.items in
    let news = map state c.advance.new.stores.items in
    let all = leaves_more olds nows news c.args.walk.now c.turns.walk c.advance.new.self tt c.in-Ok-Some.field-0 c.turns.invariant.3 c.in-Ok-Some.ensures.stores in
    (all.counts, ap (λ l. (g.L.LiveStore.state l).faults) c.stop_for_memory-stop-in-None.ensures.store ∙ c.turns.invariant.5)

pub returns-in-None-clause-asked : goal.returns-in-None-clause-asked
returns-in-None-clause-asked g c =
    let state : g.row.T.Denot → StoreState = λ s. g.T.Store.state s in
    let olds = map state c.args.stores.now.items in
    let nows = map state c.turns.stores.items in
    let news = map state c.advance.new.stores.items in
    let all = leaves_more olds nows news c.args.walk.now c.turns.walk c.advance.new.self tt c.in-Ok-Some.field-0 c.turns.invariant.3 c.in-Ok-Some.ensures.stores in
    asked_in_all olds news (unasked c.args.walk.now) (unasked c.advance.new.self) all.asked

pub returns-in-Err-put_message-clause-counts : goal.returns-in-Err-put_message-clause-counts
returns-in-Err-put_message-clause-counts g c =
    let state : g.row.T.Denot → StoreState = λ s. g.T.Store.state s in
    let olds = map state c.args.stores.now.items in
    let nows = map state c.turns.stores.items in
    let news = map state c.advance.new.stores.items in
    let all = leaves_more olds nows news c.args.walk.now c.turns.walk c.advance.new.self tt c.in-Ok-Some.field-0 c.turns.invariant.3 c.in-Ok-Some.ensures.stores in
    (all.counts, subst (λ (n : ℕ). StopCause n (g.L.LiveStore.state c.put_message.new.k.scribe.store).faults c.in-Err-put_message.stop) c.turns.invariant.5 c.in-Err-put_message.ensures.cause)

pub returns-in-Err-put_message-clause-asked : goal.returns-in-Err-put_message-clause-asked
returns-in-Err-put_message-clause-asked g c =
    let state : g.row.T.Denot → StoreState = λ s. g.T.Store.state s in
    let olds = map state c.args.stores.now.items in
    let nows = map state c.turns.stores.items in
    let news = map state c.advance.new.stores.items in
    let all = leaves_more olds nows news c.args.walk.now c.turns.walk c.advance.new.self tt c.in-Ok-Some.field-0 c.turns.invariant.3 c.in-Ok-Some.ensures.stores in
    asked_in_all olds news (unasked c.args.walk.now) (unasked c.advance.new.self) all.asked

pub returns-in-Ok-None-clause-counts : goal.returns-in-Ok-None-clause-counts
returns-in-Ok-None-clause-counts g c =
    let state : g.row.T.Denot → StoreState = λ s. g.T.Store.state s in
    let olds = map state c.args.stores.now.items in
    let nows = map state c.turns.stores.items in
    let news = map state c.advance.new.stores.items in
    let all = leaves_on olds nows news c.args.walk.now c.turns.walk c.advance.new.self tt (Ok c.in-Ok-None.field-0) c.turns.invariant.3 c.in-Ok-None.ensures.stores in
    (all.counts, c.turns.invariant.5)

pub returns-in-Ok-None-clause-asked : goal.returns-in-Ok-None-clause-asked
returns-in-Ok-None-clause-asked g c =
    let state : g.row.T.Denot → StoreState = λ s. g.T.Store.state s in
    let olds = map state c.args.stores.now.items in
    let nows = map state c.turns.stores.items in
    let news = map state c.advance.new.stores.items in
    let all = leaves_on olds nows news c.args.walk.now c.turns.walk c.advance.new.self tt (Ok c.in-Ok-None.field-0) c.turns.invariant.3 c.in-Ok-None.ensures.stores in
    asked_in_all olds news (unasked c.args.walk.now) (unasked c.advance.new.self) all.asked

pub returns-clause-counts : goal.returns-clause-counts
returns-clause-counts g c =
    let state : g.row.T.Denot → StoreState = λ s. g.T.Store.state s in
    let olds = map state c.args.stores.now.items in
    let nows = map state c.turns.stores.items in
    (c.turns.invariant.3.counts, subst (λ (w : Stop). StopCause (g.L.LiveStore.state c.args.k.now.scribe.store).faults (g.L.LiveStore.state c.stop_for_memory.new.self.store).faults w) (sym c.stop_for_memory.ensures.memory) (ap (λ l. (g.L.LiveStore.state l).faults) c.stop_for_memory.ensures.store ∙ c.turns.invariant.5))

pub returns-clause-asked : goal.returns-clause-asked
returns-clause-asked g c =
    let state : g.row.T.Denot → StoreState = λ s. g.T.Store.state s in
    let olds = map state c.args.stores.now.items in
    let nows = map state c.turns.stores.items in
    asked_in_all olds nows (unasked c.args.walk.now) (unasked c.turns.walk) c.turns.invariant.3.asked
