-- A survey so far.
use Rattle.std.proofs.Common.{◌≡◌, ℕ, List, [], ◌∷◌, ◌++◌, sym, ap, subst, ◌∙◌}
use Rattle.mcap_io.specs.Outside.{SourceState}
use Rattle.mcap_model.specs.Tops.{Top, flat}
use Rattle.mcap_model.specs.Declarations.{TablesOf}
use Rattle.mcap_model.specs.Made.{top}
use Rattle.mcap_model.specs.Kept.{reading_limits}
use Rattle.mcap_model.specs.declared.tables.Tables.{Tables}
use Rattle.mcap_model.proofs.Flat.{good_lists_are_scanned}
use Rattle.mcap_scan.specs.declared.reader.Reader.{Reader}
use Rattle.mcap_scan.specs.Scanning.{Stands, Gives, FindsEnd, content_of}
use Rattle.merge_walk.specs.declared.spans.Span.{Span}
use Rattle.merge_walk.specs.declared.surveying.Survey.{Survey}
use Rattle.merge_walk.specs.Spans.{spans_one, spans_of}
use Rattle.merge_walk.specs.Surveys.{IsSurveyOf}
use Rattle.merge_walk.proofs.Noted.{spans_joined}

-- the reader stands for records, whose spans these are
pub record NotedSoFar (reader : Reader) (before now : SourceState) (spans : List Span) : Type 0 where
  pub tops : List Top
  pub stands : Stands reader before now tops
  pub spans_are : spans ≡ spans_of tops

pub noted_begin : (reader : Reader) (before : SourceState) (spans : List Span) → Stands reader before before [] → spans ≡ [] → NotedSoFar reader before before spans
noted_begin reader before spans stands none = record { tops = []; stands = stands; spans_are = none }

pub noted_on : (reader reader_new : Reader) (before now now_new : SourceState) (old new : List Span) (op offset : ℕ) (content : List ℕ) (was : NotedSoFar reader before now old) → Gives reader_new before now_new was.tops op offset
    → content ≡ content_of reader_new → new ≡ old ++ spans_one offset (top op content) → NotedSoFar reader_new before now_new new
noted_on reader reader_new before now now_new old new op offset content was gives same notes =
    let t = top op (content_of reader_new) in
    record {
      tops = was.tops ++ t ∷ [];
      stands = gives.stands;
      spans_are =
          notes
          ∙ ap (λ (l : List ℕ). old ++ spans_one offset (top op l)) same
          ∙ ap (λ (l : List Span). l ++ spans_one offset t) was.spans_are
          ∙ ap (λ (n : ℕ). spans_of was.tops ++ spans_one n t) gives.place
          ∙ sym (spans_joined 8 was.tops t);
    }

pub noted_at_end : (reader reader_new : Reader) (before now now_new : SourceState) (spans : List Span) (s : Survey) (tables : Tables) (offset : ℕ) (was : NotedSoFar reader before now spans) → FindsEnd reader_new before now_new was.tops offset
    → tables ≡ reader_new.tables → s.tables ≡ tables → s.spans.items ≡ spans → IsSurveyOf before now_new s
noted_at_end reader reader_new before now now_new spans s tables offset was finds same tables_are spans_are =
    let is = finds.is in
    let found = good_lists_are_scanned reading_limits was.tops is.good in
    record {
      tops = was.tops;
      end = offset;
      messages = found.0;
      halts = finds.halts;
      good = is.good;
      scan = found.1;
      tables_are = subst (TablesOf (flat was.tops)) (sym (tables_are ∙ same)) is.tables_are;
      spans_are = spans_are ∙ was.spans_are;
    }
