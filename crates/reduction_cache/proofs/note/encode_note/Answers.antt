use Rattle.reduction_cache.proofs.Notes.{note_written}
use Rattle.reduction_cache.proofs.note.encode_note.Goals as goal

pub returns-clause-text : goal.returns-clause-text
returns-clause-text c =
    note_written (record { resolved = c.args.resolved.now; outputs = c.args.outputs.now }) c.in_ok-text.text c.append_name.new.text c.append_names.new.text c.append.new.self
    c.in_ok-text.ensures c.in_ok-append_name.ensures.line c.in_ok-append_names.ensures.lines c.in_ok-append.ensures.ok

pub returns-clause-note : goal.returns-clause-note
returns-clause-note c =
    record {
      rules = record {
        resolved = c.in_ok-append_name.ensures.name;
        kind = c.requires.kind;
        outputs = c.in_ok-append_names.ensures.names;
        some_output = c.requires.some_output;
        few_outputs = c.requires.few_outputs;
      };
      text =
          note_written (record { resolved = c.args.resolved.now; outputs = c.args.outputs.now }) c.in_ok-text.text c.append_name.new.text c.append_names.new.text c.append.new.self
          c.in_ok-text.ensures c.in_ok-append_name.ensures.line c.in_ok-append_names.ensures.lines c.in_ok-append.ensures.ok;
    }
