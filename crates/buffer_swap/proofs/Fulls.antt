-- What a pass shows of full buffers behind a call that met none.
use Rattle.std.proofs.Common.{◌≡◌, ℕ, Result, Ok, Err, refl, ap}
use Rattle.rec_data.specs.declared.channel.ChannelDef.{ChannelDef}
use Rattle.record_core.specs.declared.answers.Declared.{Declared}
use Rattle.record_core.specs.declared.answers.CallRefused.{CallRefused}
use Rattle.record_core.specs.declared.answers.CallRefused.TheVariants as refusing
use Rattle.record_core.specs.declared.answers.NewMessage.{NewMessage}
use Rattle.feed_lane.specs.Pass.{PassState}
use Rattle.feed_lane.specs.PassCalls.{PublishedBy, DeclaredInto}
use Rattle.buffer_swap.specs.Calls.{NotFull, NeverFull}

abbrev fulls_there : {a b : PassState} → a ≡ b → a.fulls ≡ b.fulls
fulls_there is = ap (λ (p : PassState). p.fulls) is

pub published_unfull : (before after : PassState) (m : NewMessage) (result : Result ℕ CallRefused) → PublishedBy before after m result
    → NotFull result → after.fulls ≡ before.fulls
published_unfull before after m (Ok place) is unfull = fulls_there is.4
published_unfull before after m (Err (refusing.TooLarge len)) is unfull = fulls_there is.2
published_unfull before after m (Err (refusing.Closed at)) is unfull = fulls_there is.5
published_unfull before after m (Err (refusing.Stopped at stop)) is unfull = fulls_there is.5
published_unfull before after m (Err refusing.UnknownChannel) is unfull = fulls_there is.5
published_unfull before after m (Err (refusing.TooManyRecords count)) is unfull = fulls_there is.7
published_unfull before after m (Err (refusing.Full held from to)) is unfull = absurd (unfull held from to refl)
published_unfull before after m (Err refusing.TooManySchemas) is unfull = absurd is
published_unfull before after m (Err refusing.TooManyChannels) is unfull = absurd is
published_unfull before after m (Err refusing.Memory) is unfull = absurd is

pub declared_unfull : (before after : PassState) (c : ChannelDef) (result : Result Declared CallRefused) → DeclaredInto before after c result
    → NeverFull result → after.fulls ≡ before.fulls
declared_unfull before after c (Ok given) is unfull = fulls_there is.9
declared_unfull before after c (Err (refusing.TooLarge len)) is unfull = fulls_there is.2
declared_unfull before after c (Err (refusing.Closed at)) is unfull = fulls_there is.5
declared_unfull before after c (Err (refusing.Stopped at stop)) is unfull = fulls_there is.5
declared_unfull before after c (Err (refusing.TooManyRecords count)) is unfull = fulls_there is.7
declared_unfull before after c (Err refusing.UnknownChannel) is unfull = absurd is
declared_unfull before after c (Err (refusing.Full held from to)) is unfull = absurd (unfull held from to refl)
declared_unfull before after c (Err refusing.TooManySchemas) is unfull = fulls_there is.7
declared_unfull before after c (Err refusing.TooManyChannels) is unfull = fulls_there is.7
declared_unfull before after c (Err refusing.Memory) is unfull = fulls_there is.7
