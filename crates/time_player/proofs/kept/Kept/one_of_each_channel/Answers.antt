use Rattle.std.proofs.Common.{◌<◌, ◌++◌, ◌∷◌, [], List, length, take, map, refl, sym, ap, subst, ◌∙◌, arith}
use Rattle.std.proofs.lemmas.List.{map_more}
use Rattle.mcap_model.specs.declared.replay.Shown.{Shown}
use Rattle.time_player.specs.declared.kept.Head.{Head}
use Rattle.time_player.specs.Heads.{shown_in, Represents}
use Rattle.time_player.proofs.Parts.{represents_none}
use Rattle.time_player.proofs.kept.Kept.one_of_each_channel.Goals as goal

pub messages-init : goal.messages-init
messages-init c = represents_none c.new-known.result c.new-few.result.items c.new-known.ensures c.new-few.ensures.items

pub messages-preserved : goal.messages-preserved
messages-preserved c =
    let heads = c.args.self.now.heads.items in
    let show = shown_in c.args.self.now.payloads.items in
    let i = c.messages.i in
    let h = c.index.result.now in
    let within : i < length heads = omega arith in
    let more = map_more show heads i h within ∙ ap (λ (x : Head). map show (take i heads) ++ show x ∷ []) (sym c.index.ensures) in
    subst (λ (l : List Shown). Represents l c.note_channel.new.known c.note_channel.new.few.items) (sym more)
    (c.in-Ok.ensures (map show (take i heads)) (show h) refl c.messages.invariant)
