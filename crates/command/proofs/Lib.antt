mod AloneReports
