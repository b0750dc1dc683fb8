use Rattle.std.proofs.Common.{ℕ, List, ◌++◌, ap, ◌∙◌}
use Rattle.mail_loop.specs.Serving.{unsealed_in}
use Rattle.mail_proxy.specs.Lines.{line_text}
use Rattle.mail_proxy.proofs.Served.{disk_fails}
use Rattle.mail_proxy.proofs.serve.serve_link.Goals as goal

pub returns : goal.returns
returns g c =
    let (steps, notes, over, (added, seals, counted), through) = c.serve_events-served.ensures.serves in
    let outcome = c.serve_events-served.result in
    let told = g.D.Disk.told in
    record {
      outcome = outcome;
      notes = notes;
      steps = steps;
      over = over;
      status_is = c.plan_of.ensures.status;
      output_is = ap (λ (l : List ℕ). l ++ line_text c.plan_of.result.last) (c.plan_of.ensures.body ∙ c.new.ensures) ∙ c.plan_of.ensures.last;
      desk = record {
        added = added;
        seals = seals;
        read = counted.reads;
        out_of_memory = counted.out_of_memory;
        disk_fault = disk_fails told added (unsealed_in steps c.args.desk.now.kept) c.args.desk.now c.serve_events-served.new.desk outcome seals c.requires c.serve_events-served.ensures.closed;
        through = through;
        well = λ holds. record { runs = c.serve_events-served.ensures.runs holds; uids = c.serve_events-served.ensures.uids holds };
        stays = c.serve_events-served.ensures.stays added (unsealed_in steps c.args.desk.now.kept) seals;
      };
    }
