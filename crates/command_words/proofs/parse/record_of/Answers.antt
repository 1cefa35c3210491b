-- The recording is the one whose names and options were found.
use Rattle.std.proofs.Common.{◌≡◌, ◌≢◌, ◌∷◌, Some, refl, codes, rules, inl, inr, subst, sym, unwrap_or}
use Rattle.clap.specs.Words.{first_of}
use Rattle.command_words.specs.Commands.{Flags, synopsis_of}
use Rattle.command_words.specs.declared.command.Recording.{Recording}
use Rattle.command_words.specs.Items.{given}
use Rattle.command_words.specs.Matches.{rows_found}
use Rattle.command_words.specs.declared.verbs.Verb.TheVariants as verb
use Rattle.command_words.proofs.CommandLemmas.{dash_bad, places_in, record_fed, record_is, record_limit, record_names, record_options, record_unwatched, record_watching}
use Rattle.command_words.proofs.parse.record_of.Goals as goal

pub returns-then-is_dash-clause-bad : goal.returns-then-is_dash-clause-bad
returns-then-is_dash-clause-bad c = λ words reading why recording is.
    let dash : first_of (codes "profile") (rows_found c.args.found.now) ≡ Some (codes "-") = search rules in
    dash_bad (synopsis_of verb.Record) words (rows_found c.args.found.now) reading is.items (recording.out ∷ recording.feeds) (codes "profile") (inr (inr (inl refl))) dash is.reads

pub returns-in_default-clause-bad : goal.returns-in_default-clause-bad
returns-in_default-clause-bad c = λ words reading why recording is.
    c.in_default.ensures recording.out is.out_named (record_names words (rows_found c.args.found.now) reading recording is).0

pub returns-in-Err-clause-bad : goal.returns-in-Err-clause-bad
returns-in-Err-clause-bad c = λ words reading why recording is. c.in-Err.ensures.bad is.size (record_limit words (rows_found c.args.found.now) reading recording is)

pub returns-in-Err-watching_of-clause-bad : goal.returns-in-Err-watching_of-clause-bad
returns-in-Err-watching_of-clause-bad c = λ words reading why recording is.
    c.in-Err-watching_of.ensures.bad reading.items (places_in reading) reading.shows recording.range recording.watchers (record_watching words (rows_found c.args.found.now) reading recording is)

pub returns-in-Err-recorded_feeds-clause-bad : goal.returns-in-Err-recorded_feeds-clause-bad
returns-in-Err-recorded_feeds-clause-bad c = λ words reading why recording is.
    let rows = rows_found c.args.found.now in
    let watching = c.in-Ok-watching_of.ensures.watchers reading.items (places_in reading) reading.shows in
    c.in-Err-recorded_feeds.ensures.bad why (record_fed words rows reading recording is c.in-Some.out.now c.in-Some.ensures.1)
    (record_unwatched words rows reading recording is c.in-Some.out.now c.in-Ok-watching_of.watchers.range c.in-Ok-watching_of.watchers.count c.in-Some.ensures.1 watching)

pub returns-in-Err-file_options-clause-bad : goal.returns-in-Err-file_options-clause-bad
returns-in-Err-file_options-clause-bad c = λ words reading why recording is.
    c.in-Err-file_options.ensures.bad reading.items (places_in reading) reading.shows why recording.options.file (record_options words (rows_found c.args.found.now) reading recording is)

pub returns-clause-command : goal.returns-clause-command
returns-clause-command c = λ words reading.
    let rows = rows_found c.args.found.now in
    let clean : first_of (codes "profile") rows ≢ Some (codes "-") = λ dash. search rules in
    let flag = reading.shows.flags (codes "lossless") (inr (inl refl)) in
    let flagged : Flags (given (codes "lossless") reading.items) c.has_flag.result = subst (Flags (given (codes "lossless") reading.items)) (sym (c.has_flag.ensures flag.0 flag.2)) flag.1 in
    let feeds = c.in-Ok-recorded_feeds.ensures.feeds in
    let watchers = c.in-Ok-watching_of.watchers in
    let watching = c.in-Ok-watching_of.ensures.watchers reading.items (places_in reading) reading.shows in
    let recording : Recording = record {
      out = c.in-Some.out.now;
      feeds = c.in-Ok-recorded_feeds.feeds;
      options = record { file = c.in-Ok-file_options.file; limit = unwrap_or c.in-Ok.limit 104857600; lossless = c.has_flag.result };
      range = watchers.range;
      watchers = watchers.count;
    } in
    let is = record_is words rows reading recording c.in-Ok.limit c.in-Some.ensures.1 feeds.0 c.in-Some.ensures.0 feeds.1 flagged
    (c.in-Ok-file_options.ensures.options reading.items (places_in reading) reading.shows) c.in-Ok.ensures.number refl clean feeds.2 watching in
    (rw (c.in-Ok-copy_of.ensures.copy, c.unwrap_or.ensures) is, refl)
