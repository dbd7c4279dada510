use Rattle.std.specs.Prelude.{map}
use Rattle.std.specs.List.{list_any}
use Rattle.std.proofs.Common.{ℕ, List, Vec, Global, ◌||◌, ap, ◌∙◌}
use Rattle.app_model.proofs.PathLaws.{put_among}
use Rattle.app_model.proofs.seen.Seen.put.Goals as goal

pub returns : goal.returns
returns c =
    let items = λ (v : Vec (List ℕ) Global). v.items in
    λ test. ap (λ ks. list_any test (map items ks)) c.in_ok-insert.ensures.keys
    ∙ (put_among items c.self.inside.paths.keys c.args.path test
    ∙ ap (λ ps. test c.args.path.items || list_any test ps) c.self.view_is)
