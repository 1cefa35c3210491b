-- A content that meets its layout is parsed.
use Rattle.mcap_model.proofs.views.view_record.Goals as goal

pub unreachable-requires : goal.unreachable-requires
unreachable-requires c =
    let is = c.requires.header c.in-1.is in
    c.in-Err.ensures.none (record { profile = is.profile; library = is.library }) is.layout

pub unreachable-requires-in-Err-parse : goal.unreachable-requires-in-Err-parse
unreachable-requires-in-Err-parse c =
    let (id, f, is) = c.requires.schema c.in-3.is in c.in-Err-parse.ensures.none id f is.layout

pub unreachable-requires-in-Err-parse-2 : goal.unreachable-requires-in-Err-parse-2
unreachable-requires-in-Err-parse-2 c =
    let (id, f, is) = c.requires.channel c.in-4.is in c.in-Err-parse-2.ensures.none id f is.layout

pub unreachable-requires-in-Err-parse-4 : goal.unreachable-requires-in-Err-parse-4
unreachable-requires-in-Err-parse-4 c =
    let (f, is) = c.requires.chunk c.in-6.is in c.in-Err-parse-4.ensures.none f is.layout

pub unreachable-requires-in-Err-parse-5 : goal.unreachable-requires-in-Err-parse-5
unreachable-requires-in-Err-parse-5 c =
    let (channel, entries, is) = c.requires.message_index c.in-7.is in
    c.in-Err-parse-5.ensures.none channel entries is.layout

pub unreachable-requires-in-Err-parse-6 : goal.unreachable-requires-in-Err-parse-6
unreachable-requires-in-Err-parse-6 c =
    let (f, is) = c.requires.attachment c.in-9.is in c.in-Err-parse-6.ensures.none f is.layout

pub unreachable-requires-in-Err-parse-7 : goal.unreachable-requires-in-Err-parse-7
unreachable-requires-in-Err-parse-7 c =
    let (name, pairs, is) = c.requires.metadata c.in-12.is in
    c.in-Err-parse-7.ensures.none (record { name = name; metadata = pairs }) is.layout
