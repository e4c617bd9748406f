-- The posts of jobs.
use Rattle.task_model.specs.Jobs.{JobPosted}
use Rattle.past_lookup.specs.declared.jobs.JobPost.{JobPost}

-- the first post of a job, as the past tells of it
abbrev pub job_posted : JobPost → JobPosted
job_posted post = record { place = post.place; ok = post.ok }
