use Rattle.std.proofs.Common.{ℕ, true, refl, sym, subst}
use Rattle.mcap_model.specs.Tops.{flat}
use Rattle.mcap_model.specs.Rules.{V6, V7}
use Rattle.mcap_model.specs.Made.{top}
use Rattle.summary_check.specs.Declaring.{DeclarationTaken}
use Rattle.summary_check.proofs.Declaring.{silent_taken, declared_taken, declared_refused}
use Rattle.summary_check.proofs.declarations.take_declaration.Goals as goal

pub returns-in-Fits : goal.returns-in-Fits
returns-in-Fits c = λ before are judged.
    let content = c.args.content.now in
    let new = c.take_schema.new.self in
    let j = c.in-Fits.ensures (flat before) are in
    subst (λ (op : ℕ). DeclarationTaken before (top op content) new true) (sym c.if-op-eq-SCHEMA.true) (declared_taken before (top 3 content) new refl j.1 j.2)

pub returns-in-Breaks : goal.returns-in-Breaks
returns-in-Breaks c = λ before are judged v7.
    let content = c.args.content.now in
    declared_refused before (top 3 content) c.in-Breaks.rule refl (c.in-Breaks.ensures (flat before) are)
    (subst (λ (op : ℕ). V6 (top op content)) c.if-op-eq-SCHEMA.true judged.1) (subst (λ (op : ℕ). V7 before (top op content)) c.if-op-eq-SCHEMA.true v7)

pub returns-in-Fits-take_channel : goal.returns-in-Fits-take_channel
returns-in-Fits-take_channel c = λ before are judged.
    let content = c.args.content.now in
    let new = c.take_channel.new.self in
    let j = c.in-Fits-take_channel.ensures (flat before) are in
    subst (λ (op : ℕ). DeclarationTaken before (top op content) new true) (sym c.if-op-eq-CHANNEL.true) (declared_taken before (top 4 content) new refl j.1 j.2)

pub returns-in-Breaks-take_channel : goal.returns-in-Breaks-take_channel
returns-in-Breaks-take_channel c = λ before are judged v7.
    let content = c.args.content.now in
    declared_refused before (top 4 content) c.in-Breaks-take_channel.rule refl (c.in-Breaks-take_channel.ensures (flat before) are)
    (subst (λ (op : ℕ). V6 (top op content)) c.if-op-eq-CHANNEL.true judged.1) (subst (λ (op : ℕ). V7 before (top op content)) c.if-op-eq-CHANNEL.true v7)

pub returns : goal.returns
returns c = λ before are judged.
    silent_taken before (top c.args.op c.args.content.now) c.args.tables.now c.if-op-eq-SCHEMA.false c.if-op-eq-CHANNEL.false are judged
