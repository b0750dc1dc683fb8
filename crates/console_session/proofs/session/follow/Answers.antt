use Rattle.std.proofs.Common.{refl, true}
use Rattle.console_http.specs.declared.request.Route.TheVariants as route
use Rattle.console_replies.specs.Bodies.{stopped_data}
use Rattle.repair_desk.specs.Repairs.{position}
use Rattle.console_session.specs.declared.reply.After.TheVariants.{Closes, Stops}
use Rattle.console_session.specs.Answers.{answer, body_answer, body_found, box_answer, conf_answer, is_text_recorded, plan_answer, status_answer, timeline_answer}
use Rattle.console_session.proofs.Turns.{serves_found, serves_route}
use Rattle.time_desk.specs.Replaying.{plan_reads}
use Rattle.console_session.proofs.session.follow.Goals as goal

pub returns-in-Status : goal.returns-in-Status
returns-in-Status g c =
    serves_route g.D.Disk.told c.seals_join.ensures.still g.met.D.Disk.tells_truth c.args.at c.args.route route.Status (status_answer c.args.desk.now.kept) Closes c.args.desk.now c.tell_status.result
    c.in-Status.is (λ h. refl) c.tell_status.ensures

pub returns-in-Timeline : goal.returns-in-Timeline
returns-in-Timeline g c =
    serves_route g.D.Disk.told c.seals_join.ensures.still g.met.D.Disk.tells_truth c.args.at c.args.route (route.Timeline c.in-Timeline.start) (timeline_answer c.args.desk.now.kept c.in-Timeline.start) Closes
    c.args.desk.now c.tell_timeline.result c.in-Timeline.is (λ h. refl) c.tell_timeline.ensures

pub returns-in-Box : goal.returns-in-Box
returns-in-Box g c =
    serves_route g.D.Disk.told c.seals_join.ensures.still g.met.D.Disk.tells_truth c.args.at c.args.route (route.Box c.in-Box.user c.in-Box.name) (box_answer c.args.desk.now.kept c.in-Box.user c.in-Box.name) Closes
    c.args.desk.now c.tell_box.result c.in-Box.is (λ h. refl) c.tell_box.ensures

pub returns-in-Body : goal.returns-in-Body
returns-in-Body g c =
    serves_found g.D.Disk.told c.seals_join.ensures.still c.args.at c.args.route (route.Body c.in-Body.number) (is_text_recorded c.args.desk.now.kept c.in-Body.number)
    (body_found c.args.desk.now.kept.timeline c.in-Body.number)
    (body_answer c.args.desk.now.kept c.in-Body.number) c.args.desk.now c.tell_body.new.desk c.tell_body.result c.in-Body.is c.tell_body.ensures.still (λ h. refl) c.tell_body.ensures.told

pub returns-in-Conf : goal.returns-in-Conf
returns-in-Conf g c =
    serves_route g.D.Disk.told c.seals_join.ensures.still g.met.D.Disk.tells_truth c.args.at c.args.route route.Conf (conf_answer c.args.desk.now.kept) Closes c.args.desk.now c.tell_conf.result
    c.in-Conf.is (λ h. refl) c.tell_conf.ensures

pub returns-in-Stop : goal.returns-in-Stop
returns-in-Stop g c =
    serves_route g.D.Disk.told c.seals_join.ensures.still g.met.D.Disk.tells_truth c.args.at c.args.route route.Stop (answer 200 stopped_data) Stops c.args.desk.now c.tell.result
    c.in-Stop.is (λ h. refl) (c.tell.ensures stopped_data c.stopped_json.ensures)

pub returns-in-Plan : goal.returns-in-Plan
returns-in-Plan g c =
    serves_found g.D.Disk.told c.seals_join.ensures.still c.args.at c.args.route (route.Plan c.in-Plan.point) (plan_reads c.args.desk.now.kept c.in-Plan.point) (position c.args.desk.now.kept.timeline c.in-Plan.point)
    (plan_answer c.args.desk.now.kept c.in-Plan.point) c.args.desk.now c.tell_plan.new.desk c.tell_plan.result c.in-Plan.is c.tell_plan.ensures.still (λ h. refl) c.tell_plan.ensures.told
