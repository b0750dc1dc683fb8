use Rattle.std.proofs.Common.{◌∙◌}
use Rattle.mail_loop.specs.Serving.{unsealed_in}
use Rattle.mail_proxy.specs.Lines.{line_text}
use Rattle.mail_proxy.proofs.Served.{played_by, log_notes, tells_by, tells_last, disk_failed}
use Rattle.mail_proxy.proofs.serving.serve_script.Goals as goal

pub returns-in-Ok : goal.returns-in-Ok
returns-in-Ok g c =
    let (steps, notes, over, (added, seals, counted), through) = c.serve_events-ended.ensures.serves in
    let ended = c.serve_events-ended.result in
    let outcome = c.outcome_over-served.result in
    let told = g.D.Disk.told in
    record {
      outcome = outcome;
      notes = notes;
      steps = steps;
      played = played_by c.args.events outcome over c.new-link.ensures.coming c.new-link.ensures.reliable c.new-link.ensures.out_of_memory c.outcome_over-served.ensures;
      tells = tells_by outcome notes c.log.result.now c.plan_of.result.status c.plan_of.result.body (line_text c.plan_of.result.last)
          c.plan_of.ensures.status (c.plan_of.ensures.body ∙ c.in-Ok.ensures) (log_notes c.log.result.now over c.new-link.ensures.log c.log.ensures) c.plan_of.ensures.last;
      desk = record {
        added = added;
        seals = seals;
        read = counted.reads;
        out_of_memory = counted.out_of_memory;
        disk_fault = disk_failed told added (unsealed_in steps c.args.desk.now.kept) c.args.desk.now c.serve_events-ended.new.desk _ ended outcome seals c.requires c.serve_events-ended.ensures.closed c.outcome_over-served.ensures;
        through = through;
        well = λ holds. record { runs = c.serve_events-ended.ensures.runs holds; uids = c.serve_events-ended.ensures.uids holds };
        stays = c.serve_events-ended.ensures.stays added (unsealed_in steps c.args.desk.now.kept) seals;
      };
    }

pub returns-in-Err : goal.returns-in-Err
returns-in-Err g c =
    let (steps, notes, over, (added, seals, counted), through) = c.serve_events-ended.ensures.serves in
    let ended = c.serve_events-ended.result in
    let outcome = c.outcome_over-served.result in
    let told = g.D.Disk.told in
    record {
      outcome = outcome;
      notes = notes;
      steps = steps;
      played = played_by c.args.events outcome over c.new-link.ensures.coming c.new-link.ensures.reliable c.new-link.ensures.out_of_memory c.outcome_over-served.ensures;
      tells = tells_last outcome c.or_out_of_memory.result notes c.plan_of-in-Err.result.status c.plan_of-in-Err.result.body (line_text c.plan_of-in-Err.result.last)
          c.or_out_of_memory.ensures c.plan_of-in-Err.ensures.status (c.plan_of-in-Err.ensures.body ∙ c.new.ensures) c.plan_of-in-Err.ensures.last;
      desk = record {
        added = added;
        seals = seals;
        read = counted.reads;
        out_of_memory = counted.out_of_memory;
        disk_fault = disk_failed told added (unsealed_in steps c.args.desk.now.kept) c.args.desk.now c.serve_events-ended.new.desk _ ended outcome seals c.requires c.serve_events-ended.ensures.closed c.outcome_over-served.ensures;
        through = through;
        well = λ holds. record { runs = c.serve_events-ended.ensures.runs holds; uids = c.serve_events-ended.ensures.uids holds };
        stays = c.serve_events-ended.ensures.stays added (unsealed_in steps c.args.desk.now.kept) seals;
      };
    }
