-- A first part is read, and then the rest of up to one byte more than a script may have.
use Rattle.std.proofs.Common.{◌≡◌, ℕ, List, ◌++◌, length, sym, ap, subst, ◌∙◌, length-append, arith}
use Rattle.command_read.specs.Play.{IsScriptRead}
use Rattle.command_read.proofs.ScriptBytes.{read_whole, read_long, joined, rest_unread, lacks_both}
use Rattle.command_read.proofs.scripting.read_bytes.Goals as goal

pub returns-then-len-lt-SCRIPT_FRONT-clause-read : goal.returns-then-len-lt-SCRIPT_FRONT-clause-read
returns-then-len-lt-SCRIPT_FRONT-clause-read g c =
    let size = c.len.ensures in
    let short = c.if-len-lt-SCRIPT_FRONT.true in
    read_whole (g.S.Source.state c.args.source.now) (g.S.Source.state c.read_front.new.source) 65536 c.in-Ok.bytes.items c.in-Ok.ensures.read (omega (arith, size, short)) (omega (arith, size, short))

pub returns-in-Err-read_front-clause-unread : goal.returns-in-Err-read_front-clause-unread
returns-in-Err-read_front-clause-unread g c =
    let size = c.len.ensures in
    let long = c.if-len-lt-SCRIPT_FRONT.false in
    let few = c.in-Ok.ensures.read.few in
    rest_unread (g.S.Source.state c.args.source.now) (g.S.Source.state c.read_front.new.source) c.in-Ok.bytes.items c.in-Ok.ensures.read (omega (arith, size, long, few))
    (g.S.Source.state c.read_front-2.new.source) c.in-Err-read_front.why c.in-Err-read_front.ensures.unread

pub returns-then-len-clause-unread : goal.returns-then-len-clause-unread
returns-then-len-clause-unread g c =
    let before = g.S.Source.state c.args.source.now in
    let now = g.S.Source.state c.read_front-2.new.source in
    let first = c.in-Ok.bytes.items in
    let more = c.in-Ok-read_front.more.items in
    let size = c.len.ensures in
    let long = c.if-len-lt-SCRIPT_FRONT.false in
    let few = c.in-Ok.ensures.read.few in
    let full : length first ≡ 65536 = omega (arith, size, long, few) in
    let size_more = c.len-2.ensures in
    let many = c.if-len.true in
    read_long before now (first ++ more) (joined before (g.S.Source.state c.read_front.new.source) first c.in-Ok.ensures.read full now more c.in-Ok-read_front.ensures.read)
    (omega (arith, length-append first more, full, size_more, many))

pub returns-in-Ok-extend_from_slice-clause-read : goal.returns-in-Ok-extend_from_slice-clause-read
returns-in-Ok-extend_from_slice-clause-read g c =
    let before = g.S.Source.state c.args.source.now in
    let now = g.S.Source.state c.read_front-2.new.source in
    let first = c.in-Ok.bytes.items in
    let more = c.in-Ok-read_front.more.items in
    let size = c.len.ensures in
    let long = c.if-len-lt-SCRIPT_FRONT.false in
    let few = c.in-Ok.ensures.read.few in
    let full : length first ≡ 65536 = omega (arith, size, long, few) in
    let size_more = c.len-2.ensures in
    let short = c.if-len.false in
    subst (λ (l : List ℕ). IsScriptRead before now l) (sym (c.in-Ok-extend_from_slice.ensures.items ∙ ap (λ (l : List ℕ). first ++ l) c.deref.ensures.value))
    (read_whole before now 67108865 (first ++ more) (joined before (g.S.Source.state c.read_front.new.source) first c.in-Ok.ensures.read full now more c.in-Ok-read_front.ensures.read)
    (omega (arith, length-append first more, full, size_more, short)) (omega (arith, length-append first more, full, size_more, short)))

pub returns-in-Err-extend_from_slice-clause-unread : goal.returns-in-Err-extend_from_slice-clause-unread
returns-in-Err-extend_from_slice-clause-unread g c =
    let before = g.S.Source.state c.args.source.now in
    let mid = g.S.Source.state c.read_front.new.source in
    let now = g.S.Source.state c.read_front-2.new.source in
    let first = c.in-Ok.bytes.items in
    let more = c.in-Ok-read_front.more.items in
    let size = c.len.ensures in
    let long = c.if-len-lt-SCRIPT_FRONT.false in
    let few = c.in-Ok.ensures.read.few in
    let full : length first ≡ 65536 = omega (arith, size, long, few) in
    let size_more = c.len-2.ensures in
    let short = c.if-len.false in
    lacks_both before mid first c.in-Ok.ensures.read full now (first ++ more)
    (read_whole before now 67108865 (first ++ more) (joined before mid first c.in-Ok.ensures.read full now more c.in-Ok-read_front.ensures.read)
    (omega (arith, length-append first more, full, size_more, short)) (omega (arith, length-append first more, full, size_more, short)))
