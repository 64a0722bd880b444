-- What a server counts, in the text format 0.0.4 of Prometheus (Exposition formats, text-based format).
use Rattle.std.specs.Prelude.{ℕ, ◌-◌, ◌==◌, Bool, true, false, if◌then◌else◌, List, [], ◌∷◌, ◌++◌, flat_map, length, slice_index, Option, None, Some, codes, decimal}
use Rattle.health_wire.specs.declared.serving.Serving.{Serving}
use Rattle.health_wire.specs.declared.serving.Serving.TheVariants.{Unknown, NotServing, ServiceUnknown, Serving as IsServing}
use Rattle.plain.specs.declared.figures.Figures.{Figures}
use Rattle.plain.specs.declared.figures.Refused.{Refused}
use Rattle.plain.specs.declared.metrics.Sample.{Sample}
use Rattle.plain.specs.declared.version.TheConstants.{VERSION}
use Rattle.plain.specs.Slots.{texts_from}

-- what stands in a label's value for a byte: a backslash, a quote and a line feed are escaped
abbrev pub escaped_byte : ℕ → List ℕ
escaped_byte c =
    if c == 92 then codes "\\\\"
    else (if c == 34 then codes "\\\"" else (if c == 10 then codes "\\n" else c ∷ []))

-- a text in a label
abbrev pub label_text : List ℕ → List ℕ
label_text name = flat_map escaped_byte name

-- the value of a label for a service: a hyphen for the whole server, whose name is empty
abbrev pub label_of : List ℕ → List ℕ
label_of name = if length name == 0 then codes "-" else label_text name

-- a status as a number
abbrev pub level : Option Serving → List ℕ
level (Some IsServing) = codes "1"
level (Some NotServing) = codes "0"
level (Some Unknown) = codes "-1"
level (Some ServiceUnknown) = codes "-1"
level None = codes "-1"

-- the lines before the samples of a metric: its help, and its type
abbrev pub family : List ℕ → List ℕ → List ℕ → List ℕ
family name help type = codes "# HELP " ++ name ++ codes " " ++ help ++ codes "\n# TYPE " ++ name ++ codes " " ++ type ++ codes "\n"

-- the status of a service
abbrev pub status_sample : (ℕ → Option Serving) → ℕ → List ℕ → List ℕ
status_sample statuses slot name =
    codes "healthd_service_status{service=\"" ++ label_of name ++ codes "\"} " ++ level (statuses slot) ++ codes "\n"

-- the number of a service, behind what stands before its name
abbrev pub number_sample : List ℕ → List ℕ → ℕ → List ℕ → List ℕ
number_sample before numbers slot name =
    before ++ label_of name ++ codes "\"} " ++ decimal (slice_index numbers slot) ++ codes "\n"

-- a metric of this name and help with a number for each service
abbrev pub service_metrics : List ℕ → List ℕ → List ℕ → List (List ℕ) → List ℕ
service_metrics name help numbers names =
    family name help (codes "gauge") ++ texts_from (number_sample (name ++ codes "{service=\"") numbers) 0 names

-- when each service was reported last
abbrev pub reported_metrics : Figures → List (List ℕ) → List ℕ
reported_metrics figures names =
    service_metrics (codes "healthd_last_report_timestamp_seconds") (codes "When the service was reported last, 0 if not since the start.") figures.reported names

-- how often each service is expected to be reported
abbrev pub expected_metrics : Figures → List (List ℕ) → List ℕ
expected_metrics figures names =
    service_metrics (codes "healthd_expected_seconds") (codes "Every how many seconds a report is expected, 0 if none is.") figures.expected names

-- the version of the program
abbrev pub build_text : List ℕ
build_text =
    family (codes "healthd_build_info") (codes "The version of the program.") (codes "gauge")
    ++ codes "healthd_build_info{version=\"" ++ VERSION.now ++ codes "\"} 1\n"

-- a metric of one sample: all of its text before the value, and the value
pub record Metric : Type 0 where
  pub before : List ℕ
  pub value : ℕ

-- the metric of this name, help and type
abbrev pub metric : List ℕ → List ℕ → List ℕ → ℕ → Metric
metric name help type value = record { before = family name help type ++ name ++ codes " "; value = value }

-- a metric, apart from where its text lies in memory
abbrev pub metric_of : Sample → Metric
metric_of sample = record { before = sample.before.now; value = sample.value }

-- its text
abbrev pub metric_text : Metric → List ℕ
metric_text one = one.before ++ decimal one.value ++ codes "\n"

-- the history, of which more entries may be made up to the most
abbrev pub history_metrics : ℕ → Figures → List Metric
history_metrics entries figures =
    metric (codes "healthd_entries_total") (codes "Entries in the history of the registry.") (codes "counter") entries
    ∷ metric (codes "healthd_entries_left") (codes "Entries that may still be made.") (codes "gauge") (figures.most - entries) ∷ []

-- whether a journal can be written, as a number
abbrev pub writable : Bool → ℕ
writable true = 1
writable false = 0

-- the server itself
abbrev pub server_metrics : Figures → List Metric
server_metrics figures =
    metric (codes "healthd_start_time_seconds") (codes "When the server was started.") (codes "gauge") figures.started
    ∷ metric (codes "healthd_journal_writable") (codes "1 if the newest change could be stored, 0 if not.") (codes "gauge") (writable figures.is_writable) ∷ []

-- what is open
abbrev pub open_metrics : Figures → List Metric
open_metrics figures =
    metric (codes "healthd_connections") (codes "Connections that are open.") (codes "gauge") figures.connections
    ∷ metric (codes "healthd_watches") (codes "Watches that are open.") (codes "gauge") figures.watches
    ∷ metric (codes "healthd_sessions") (codes "Control sessions that are open.") (codes "gauge") figures.sessions ∷ []

-- what has ended, and expiries
abbrev pub ended_metrics : Figures → List Metric
ended_metrics figures =
    metric (codes "healthd_calls_total") (codes "Connections that have ended.") (codes "counter") figures.calls
    ∷ metric (codes "healthd_given_up_total") (codes "Connections whose time was up.") (codes "counter") figures.given_up
    ∷ metric (codes "healthd_gone_total") (codes "Connections whose client went away before its answer.") (codes "counter") figures.gone
    ∷ metric (codes "healthd_behind_total") (codes "Watches that ended since they were behind.") (codes "counter") figures.behind
    ∷ metric (codes "healthd_watches_refused_total") (codes "Watches that ended because no place was free.") (codes "counter") figures.refused_watches
    ∷ metric (codes "healthd_expired_total") (codes "Times that a service was not heard from in time.") (codes "counter") figures.expired ∷ []

-- changes that were refused for this cause
abbrev pub refused_metric : List ℕ → ℕ → Metric
refused_metric cause value = record { before = codes "healthd_refused_total{cause=\"" ++ cause ++ codes "\"} "; value = value }

-- changes that were refused, by cause
abbrev pub refused_metrics : Refused → List Metric
refused_metrics refused =
    record {
      before = family (codes "healthd_refused_total") (codes "Changes that were refused, by cause.") (codes "counter")
          ++ (refused_metric (codes "bad rule") refused.bad_rule).before;
      value = refused.bad_rule;
    }
    ∷ refused_metric (codes "full") refused.full
    ∷ refused_metric (codes "no memory") refused.no_memory
    ∷ refused_metric (codes "not listed") refused.not_listed
    ∷ refused_metric (codes "not stored") refused.not_stored ∷ []

-- the statuses of all services
abbrev pub status_metrics : (ℕ → Option Serving) → List (List ℕ) → List ℕ
status_metrics statuses names =
    family (codes "healthd_service_status") (codes "1 if the service is serving, 0 if not, -1 if unknown or absent.") (codes "gauge")
    ++ texts_from (status_sample statuses) 0 names

-- what does not depend on the history
abbrev pub figures_text : List (List ℕ) → Figures → List ℕ
figures_text names figures =
    reported_metrics figures names ++ expected_metrics figures names ++ build_text
    ++ flat_map metric_text (server_metrics figures) ++ flat_map metric_text (open_metrics figures)
    ++ flat_map metric_text (ended_metrics figures) ++ flat_map metric_text (refused_metrics figures.refused)

-- all metrics
abbrev pub metrics_text : ℕ → (ℕ → Option Serving) → List (List ℕ) → Figures → List ℕ
metrics_text entries statuses names figures =
    status_metrics statuses names ++ flat_map metric_text (history_metrics entries figures) ++ figures_text names figures
