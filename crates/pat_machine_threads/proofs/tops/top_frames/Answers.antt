use Rattle.std.proofs.Common.{◌-◌, length, take, drop, reverse, ap, ◌∙◌}
use Rattle.std.proofs.lemmas.List.{take_rest}
use Rattle.pat_machine_threads.proofs.Sames.{reversed_end}
use Rattle.pat_machine_threads.proofs.tops.top_frames.Goals as goal

pub returns : goal.returns
returns c =
    let all = c.as_slice-all.result.now in
    let most = c.args.most in
    ap (λ k. reverse (take (length all - k) (drop k all))) c.saturating_sub.ensures
    ∙ ap reverse (take_rest all (length all - most))
    ∙ reversed_end all most
    ∙ ap (take most) c.as_slice-all.ensures
