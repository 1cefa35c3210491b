-- No call of a desk changes its limit.
use Rattle.std.proofs.Common.{◌≡◌, ℕ, ap}
use Rattle.std.specs.Prelude.{Result, Ok, Err}
use Rattle.rec_data.specs.declared.channel.ChannelDef.{ChannelDef}
use Rattle.mcap_model.specs.Fields.{MessageFields}
use Rattle.record_core.specs.declared.answers.Declared.{Declared}
use Rattle.record_core.specs.declared.answers.CallRefused.{CallRefused}
use Rattle.record_core.specs.declared.answers.CallRefused.TheVariants as refusing
use Rattle.record_core.specs.Desk.{DeskView, Published, DeclaredBy}

pub published_limit : (d : DeskView) (channel : ℕ) (m : MessageFields) (result : Result ℕ CallRefused) (after : DeskView) → Published d channel m result after → after.limit ≡ d.limit
published_limit d channel m (Ok place) after is = ap (λ (x : DeskView). x.limit) is.2
published_limit d channel m (Err refusal) after is = ap (λ (x : DeskView). x.limit) is.1

pub declared_limit : (d : DeskView) (c : ChannelDef) (result : Result Declared CallRefused) (after : DeskView) → DeclaredBy d c result after → after.limit ≡ d.limit
declared_limit d c (Ok given) after is = ap (λ (x : DeskView). x.limit) is.4
declared_limit d c (Err refusing.Memory) after is = ap (λ (x : DeskView). x.limit) is.2
declared_limit d c (Err refusal) after is = ap (λ (x : DeskView). x.limit) is.1
