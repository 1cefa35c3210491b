use Rattle.std.proofs.Common.{ℕ, List, sym, subst}
use Rattle.rec_data.specs.Records.{ShowsChannel}
use Rattle.rec_data.specs.Parsed.{channel_fields}
use Rattle.mcap_model.specs.Places.{At}
use Rattle.mcap_model.specs.declared.table.Declared.{Declared}
use Rattle.mcap_model.proofs.channel_table.ChannelTable.view.Goals as goal

pub unreachable-requires : goal.unreachable-requires
unreachable-requires c =
    let (k, d, at, id, same) = c.in-Some.ensures in
    let (f, is) = c.self.invariant k d at in
    c.in-Err.ensures.none d.id f (subst (λ (l : List ℕ). ShowsChannel l d.id f) same is.layout)

pub returns-in-Ok : goal.returns-in-Ok
returns-in-Ok c =
    let (k, d, at, id, same) = c.in-Some.ensures in
    let channel = c.in-Ok.channel in (
      k,
      d,
      subst (λ (l : List Declared). At l k d) c.self.view_is at,
      id,
      subst (λ (l : List ℕ). ShowsChannel l channel.id (channel_fields channel)) (sym same) c.in-Ok.ensures.shown,
    )
