use Rattle.std.proofs.Common.{ℕ, List, Option, inl, subst}
use Rattle.mcap_model.specs.Kept.{grammar, compressed, beyond}
use Rattle.mcap_model.specs.declared.refusals.ReadingRefused.{ReadingRefused}
use Rattle.mcap_scan.specs.RefusedReadings.{RefusalStands}
use Rattle.file_check.specs.CheckSteps.{checked_front, TellsFlaw}
use Rattle.file_check.proofs.Refusing.{halted_at, halts_before, grammar_told, fault_unchecked}
use Rattle.file_check.proofs.checking.tell_refusal.Goals as goal

pub returns-in-Ok-clause-tells : goal.returns-in-Ok-clause-tells
returns-in-Ok-clause-tells g c = λ old now same reads file told ended.
    let end = c.args.end in
    let offset = c.in-Grammar.offset in
    let rule = c.in-Grammar.rule in
    let stands = subst (λ (w : ReadingRefused). RefusalStands w (checked_front old end) now reads.0) c.in-Grammar.is reads.1 in
    let halts = halted_at old now (g.T.Store.state c.args.store.now).bytes file end reads.0 (grammar offset rule) same told stands in
    grammar_told file end offset rule reads.0 c.in-Ok.failed c.requires.long ended halts (subst (λ (t : Option (List ℕ)). TellsFlaw t end offset rule c.in-Ok.failed) told c.in-Ok.ensures.tells)

pub returns-in-Err-clause-tells : goal.returns-in-Err-clause-tells
returns-in-Err-clause-tells g c = λ old now same reads file told ended. fault_unchecked file c.in-Err.why c.in-Err.ensures.fault

pub returns-in-Compressed-clause-tells : goal.returns-in-Compressed-clause-tells
returns-in-Compressed-clause-tells g c = λ old now same reads file told ended.
    let end = c.args.end in
    let halt = compressed c.in-Compressed.offset c.in-Compressed.name in
    let stands = subst (λ (w : ReadingRefused). RefusalStands w (checked_front old end) now reads.0) c.in-Compressed.is reads.1 in
    halts_before file end halt reads.0 ended (halted_at old now (g.T.Store.state c.args.store.now).bytes file end reads.0 halt same told stands)

pub returns-in-Limit-clause-tells : goal.returns-in-Limit-clause-tells
returns-in-Limit-clause-tells g c = λ old now same reads file told ended.
    let end = c.args.end in
    let halt = beyond c.in-Limit.offset in
    let stands = subst (λ (w : ReadingRefused). RefusalStands w (checked_front old end) now reads.0) c.in-Limit.is reads.1 in
    inl (halts_before file end halt reads.0 ended (halted_at old now (g.T.Store.state c.args.store.now).bytes file end reads.0 halt same told stands))
