use Rattle.std.proofs.Common.{◌∙◌, ap, drop, map, string_bytes, inr}
use Rattle.pat_session.proofs.process.exit.Goals as goal

pub returns-in-Ok : goal.returns-in-Ok
returns-in-Ok g c =
    let all = c.without_name-words.ensures ∙ ap (drop 1) c.as_slice.ensures.value in
    inr (map string_bytes c.without_name-words.result.now, c.pat.result, (c.in-Ok.all.items, c.in-Ok.ensures.ok, ap (map string_bytes) all), c.exit_code.ensures, c.pat.ensures.promises, c.pat.ensures.untouched)
