use Rattle.ml_json.specs.View.{tree_of}
use Rattle.ml_json.proofs.Exact.{ok_text, ok_writable, gives_tree, not_json_exactly, deep_exactly}
use Rattle.ml_json.proofs.reader.read.Goals as goal

pub returns : goal.returns
returns c =
    let h = c.scan_and_copy.ensures in
    record {
      ok = ok_text tree_of c.scan_and_copy.result c.args.bytes.now h;
      writable = ok_writable tree_of c.scan_and_copy.result c.args.bytes.now h;
      text = gives_tree tree_of c.scan_and_copy.result c.args.bytes.now h;
      not_json = not_json_exactly tree_of c.scan_and_copy.result c.args.bytes.now h;
      deep = deep_exactly tree_of c.scan_and_copy.result c.args.bytes.now h;
    }
