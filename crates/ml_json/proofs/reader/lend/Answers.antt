use Rattle.ml_json.specs.Lent.{lent_of}
use Rattle.ml_json.proofs.Exact.{ok_text, ok_writable, gives_tree, not_json_exactly, deep_exactly}
use Rattle.ml_json.proofs.reader.lend.Goals as goal

pub returns : goal.returns
returns c =
    let h = c.scan.ensures in
    record {
      ok = ok_text lent_of c.scan.result c.args.bytes.now h;
      writable = ok_writable lent_of c.scan.result c.args.bytes.now h;
      text = gives_tree lent_of c.scan.result c.args.bytes.now h;
      not_json = not_json_exactly lent_of c.scan.result c.args.bytes.now h;
      deep = deep_exactly lent_of c.scan.result c.args.bytes.now h;
    }
